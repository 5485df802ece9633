-- What the proofs of a handle's conversions share. Assumes `Logic`.
--     E                     the box of a sender at the heap
--     word, word_typed      a handle's machine value at that of the allocator, and its type
--     handle_out, handle_in     a handle by value is [what it holds; the allocator]
use mathlib.Core.Path.{◌≡◌, refl, subst}
use mathlib.Core.Bool.{Bool}
use mathlib.Core.List.{List, [], ◌∷◌, ◌++◌}
use lib.Dec.{T, lit<}
use seplogic.Ra.Ura.{Ura}
use mir.Syntax.{Ty, impl, tnil, tcons, dnil, ty_bool, ty_ptr, ty_struct}
use mir.Val.{Val, vbool, vstruct, vnil, vcons, of_list, has_ty, WT}
use types.Logic.{Logic}
use types.Kit.{Goal, Step, step, Seq, Item, ‵, ◌$◌, move, drop, fsplit, fjoin, fpick, fpack, feq_l, feq_i}
use denote.RattleType.{Valss}
use denote.RawPtr.{Ptr, RawPtr, block_ptr, null_ptr, ptr_val}
use denote.Builtin.{bool}
use denote.Steps.{nothing}
use denote.Struct.Struct.{within}
use denote.Struct.Owning.{shape, to}
use Rattle.std.proofs.alloc.Calls.{α, Fits, handle_tells}
use Rattle.std_alloc.proofs.ResultValues.{and_tt}
use Rattle.std_alloc.proofs.BoxSteps.Form.{Bx}
use Rattle.std_heap.specs.contracts.Global as Heap
use Rattle.std_heap.specs.contracts.GlobalAllocator.TheImpl.{ghosts, dict}
use Rattle.std_heap.proofs.Global.TheLaws as heap
use Rattle.capi.specs.contracts.sender.Sender as Sender
use Rattle.capi.proofs.sender.Sender.TheLaws as sender
use Rattle.lulqoter_c.specs.declared.handle.Handle.{Handle}
use Rattle.lulqoter_c.specs.contracts.handle.Handle as H
use Rattle.lulqoter_c.specs.Holds.{holds}

abbrev pub E : Bx
E = record { row = Sender.the_row; laws = sender.the_row_laws; al = record { row = Heap.the_row; laws = heap.the_row_laws; g = ghosts; d = dict; drops = impl [] tnil dnil } }

abbrev pub handle : E.al.row.Denot → Val → base.Fml.Fml
handle a hv = E.al.row.own_val a (hv ∷ [])

abbrev pub word : Bool → Val → Val → Val
word live at hv = vstruct (vcons (vbool live) (vcons at (vcons hv vnil)))

abbrev pub handle_ty : Ty
handle_ty = ty_struct (H.the_type).name (tcons ty_bool (tcons ty_ptr (tcons (α E.al) tnil)))

abbrev pub Good : Val → Type 0
Good v = T (has_ty handle_ty v) × WT v

pub ptr_typed : (p : Ptr) → T (has_ty ty_ptr (ptr_val p)) × WT (ptr_val p)
ptr_typed (block_ptr b o) = (tt, tt)
ptr_typed null_ptr = (tt, record { fits = lit< tt })

pub word_typed : (live : Bool) (p : Ptr) (hv : Val) → Fits E.al hv → Good (word live (ptr_val p) hv)
word_typed live (block_ptr b o) hv fa = (and_tt (has_ty (α E.al) hv) fa.0, (tt, (tt, (fa.1, tt))))
word_typed live null_ptr hv fa = (and_tt (has_ty (α E.al) hv) fa.0, (tt, (record { fits = lit< tt }, (fa.1, tt))))

module _ {M : Type 1} {𝓤 : Ura M} {𝓛 : Logic 𝓤} {K : Type 0} {Γ : List (Item 𝓤)} {G : Goal 𝓤 𝓛.H} where
  pub handle_out : K → (d : Handle) (vs : List Val)
      → ((hv : Val) → vs ≡ word d.live (ptr_val d.ptr) hv ∷ [] → Fits E.al hv
      → Seq K 𝓛 (‵ (holds d.live d.alloc d.ptr d.held) ∷ ‵ (handle d.alloc hv) ∷ Γ) G)
      → Seq K 𝓛 (‵ (H.the_row.own_val d vs) ∷ Γ) G
  handle_out t d vs k =
      fsplit t $ fpick t (λ vss. fsplit t $ feq_l t (λ ev. fsplit t $ feq_l t (λ el. fsplit t $ feq_l t (λ ep. fsplit t $ handle_tells E.al t d.alloc vss.1.1.0 (λ hv ea fa. move t (1 ∷ []) $ drop t $ move t (1 ∷ 0 ∷ []) $
      k hv
      (subst (λ (ws : List Val). vs ≡ vstruct (of_list (vbool d.live ∷ ptr_val d.ptr ∷ (ws ++ []))) ∷ []) ea
      (subst (λ (ps : List Val). vs ≡ vstruct (of_list (vbool d.live ∷ (ps ++ (vss.1.1.0 ++ [])))) ∷ []) ep
      (subst (λ (ls : List Val). vs ≡ vstruct (of_list (ls ++ (vss.1.0 ++ (vss.1.1.0 ++ [])))) ∷ []) el ev))) fa)))))

  pub handle_in : K → {hv : Val} (d : Handle)
      → Step K 𝓛 (‵ (H.the_row.own_val d (word d.live (ptr_val d.ptr) hv ∷ [])) ∷ Γ) G (‵ (holds d.live d.alloc d.ptr d.held) ∷ ‵ (handle d.alloc hv) ∷ Γ) G
  handle_in t {hv} d = step (λ s.
      nothing t $ move t (2 ∷ 0 ∷ []) $ fjoin t $ feq_i t (List Val) (ptr_val d.ptr ∷ []) (ptr_val d.ptr ∷ []) refl $ fjoin t $
      feq_i t (List Val) (vbool d.live ∷ []) (vbool d.live ∷ []) refl $ fjoin t $
      feq_i t (List Val) (word d.live (ptr_val d.ptr) hv ∷ []) (word d.live (ptr_val d.ptr) hv ∷ []) refl $ fjoin t $
      fpack t (Valss (bool ∷ RawPtr ∷ Heap.the_row ∷ [])) (within (shape H.the_type) (to H.the_type d) (word d.live (ptr_val d.ptr) hv ∷ [])) (vbool d.live ∷ [], (ptr_val d.ptr ∷ [], (hv ∷ [], tt))) $ fjoin t $ s)
