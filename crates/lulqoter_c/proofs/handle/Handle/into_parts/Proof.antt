-- `into_parts` hands out what a handle owns, if it holds anything.
use mathlib.Core.Path.{refl, sym, subst}
use mathlib.Core.Bool.{Bool, true, false}
use mathlib.Core.List.{List, [], ◌∷◌, ◌++◌}
use lib.Dec.{T, lit<}
use seplogic.Ra.Ura.{Ura}
use mir.Val.{Val, of_list, has_ty, WT}
use base.Logic.{SProp, ent, emp, via, id⊢, never, never_e, fst∗}
use base.Fml.{ftrue, fsep}
use prog.Memory.{Memory}
use prog.Routine.{Routine}
use prog.Wp.{WpFn, Tables}
use types.Logic.{Logic, sem}
use types.Match.{live}
use contract.Monad.{Fun}
use contract.Running.{tables, tables_of}
use sound.WpLaws.{WpFn-mono}
use types.Kit.{Item, at_ret, ‵, raw, ◌⊛◌, ◌$◌, ◌∵◌, !, qed, by, move, keep, drop, use0, use1, join, split, fsplit, fjoin, suffices, done}
use types.Part.{whole, sub, agg}
use types.Run.{stop, fld, no_more, and_then, of_opd, lit, first, branches, skips, exec, returns, returns_within, enter}
use types.ByLocal.{alloc_all, pass_all, free_all, look_at, get, get_in, sets, env}
use denote.Exit.{yes}
use denote.RattleType.{RattleType}
use denote.RawPtr.{Ptr, block_ptr, null_ptr, ptr_val}
use denote.Signature.{Slot, plain}
use denote.Steps.{nothing}
use denote.Triple.Spec.{triple_of}
use denote.Triple.Table.{entered}
use denote.Triple.Walked.{says, Stays, stay_dropped, walk_of, ends_at, Goes-dropped, walk_Meets}
use mir.Raw.{raw as bare}
use Rattle.std.specs.Prelude.{Option, Some, None}
use Rattle.std.proofs.option.Made.{Some-of, none_of}
use Rattle.std.proofs.alloc.Calls.{token, Fits}
use Rattle.std_alloc.proofs.ResultValues.{and_tt}
use Rattle.std_alloc.proofs.BoxSteps.Form.{D, X, τ, box_ty, word as box_word, box_typed}
use Rattle.std_alloc.proofs.BoxSteps.Steps.{box_in}
use Rattle.std_heap.specs.contracts.Global as Heap
use Rattle.std_heap.specs.contracts.GlobalAllocator.TheImpl.{ghosts}
use Rattle.capi.specs.contracts.sender.Sender as Sender
use Rattle.lulqoter_c.specs.contracts.handle.Handle as Handed
use Rattle.lulqoter_c.specs.contracts.handle.parts.Parts as Parts
use Rattle.lulqoter_c.specs.Holds.{holds}
use Rattle.lulqoter_c.proofs.HandleSteps.{E, handle, word, word_typed, ptr_typed, handle_out}
use Rattle.lulqoter_c.specs.contracts.handle.Handle.into_parts as F
use Rattle.lulqoter_c.specs.contracts.handle.Handle.into_parts.Key.{name as #self}
use Rattle.lulqoter_c.proofs.handle.Handle.into_parts.Statement as stated
use Rattle.lulqoter_c.proofs.handle.Handle.into_parts.Code as code

abbrev Part : RattleType
Part = Parts.the_row Sender.the_row Heap.the_row ghosts

abbrev From : Slot 0
From = plain (λ _. Handed.the_row)

abbrev stayed : Stays (F.ended).signature.params (F.ended).kept
stayed = (stay_dropped From yes, tt)

module _ {M : Type 1} {𝓤 : Ura M} (𝓛 : Logic 𝓤) (at_mem : Memory → SProp 𝓤) (run : Routine → Fun 𝓤) (𝓣 : Tables 𝓤 𝓛.H) where
  open 𝓛 use {H}

  abbrev Bound : Type 0
  Bound = (walk_of 𝓛 F.ended stayed (F.clauses 𝓛 at_mem run)).Ghost

  abbrev at : Bound → Bool → Ptr → Heap.the_row.Denot → Option (X E) → Bound
  at z y p a h = ((z.0.0, z.0.1, z.0.2, (record { live = y; ptr = p; alloc = a; held = h }, tt), z.0.4), z.1)

  abbrev Post : Bound → Val → SProp 𝓤
  Post = (walk_of 𝓛 F.ended stayed (F.clauses 𝓛 at_mem run)).post

  abbrev Held : Bool → Ptr → Heap.the_row.Denot → Option (X E) → Val → List (Item 𝓤)
  Held y p a h hv = ‵ (holds y a p h) ∷ ‵ (handle a hv) ∷ []

  abbrev Goal : Bound → Bool → Ptr → Heap.the_row.Denot → Option (X E) → Val → Type 1
  Goal z y p a h hv = ent 𝓤 (types.Kit.⋆ 𝓛 (Held y p a h hv)) (WpFn 𝓤 H 𝓣.C 𝓣.Λ code.function (word y (ptr_val p) hv ∷ []) (Post (at z y p a h)))

  opt_typed : (b o : _) (hv : Val) → Fits E.al hv → T (has_ty (denote.Param.layout (Rattle.std.specs.contracts.option.Option.the_row Part)) (live 1 (of_list (box_word E hv b o ∷ [])))) × WT (live 1 (of_list (box_word E hv b o ∷ [])))
  opt_typed b o hv fa = (and_tt (has_ty (box_ty E) (box_word E hv b o)) (box_typed E hv b o fa).0, (record { fits = lit< tt }, ((box_typed E hv b o fa).1, tt)))

  full : (z : Bound) (b o : _) (a : Heap.the_row.Denot) (x : X E) (hv : Val) → Fits E.al hv → Goal z true (block_ptr b o) a (Some x) hv
  full z b o a x hv fa =
      let v : D E = record { ptr = block_ptr b o; alloc = a; value = x } in
      let made : Part.Denot = record { ptr = v.ptr; alloc = v.alloc; value = x } in
      let w = box_word E hv b o in
      let y = at z true (block_ptr b o) a (Some x) in
      qed 𝓛 (Held true (block_ptr b o) a (Some x) hv) ∵ fsplit ! $ box_in E ! v b o x refl refl $ use1 𝓛 (‵ (Part.own_val made (w ∷ []))) (id⊢ 𝓤 _) $
      enter ! 𝓣.C 𝓣.Λ code.function (word true (ptr_val (block_ptr b o)) hv ∷ []) _ $ alloc_all ! (λ ls. pass_all ! refl (word_typed true (block_ptr b o) hv fa, tt) $
      sets ! (of_opd ! (get_in ! (fld ! refl (stop !)) (sub ! 0 refl (whole !)))) refl (tt, tt) $ sets ! (of_opd ! (get_in ! (fld ! refl (stop !)) (sub ! 1 refl (whole !)))) refl (tt, tt) $
      sets ! (of_opd ! (get_in ! (fld ! refl (stop !)) (sub ! 2 refl (whole !)))) refl fa $ sets ! (of_opd ! (get ! refl)) refl (tt, tt) $
      first ! $ branches ! (get ! refl)
      (λ _. sets ! (of_opd ! (get ! refl)) refl (tt, tt) $ sets ! (agg ! (and_then ! (get ! refl) (and_then ! (get ! refl) (no_more !)))) refl (box_typed E hv b o fa) $
      sets ! (agg ! (and_then ! (lit ! tt) (and_then ! (get ! refl) (no_more !)))) refl (opt_typed b o hv fa) $
      returns_within ! (Post y) refl (look_at ! 0 refl) $ free_all ! refl $
      use1 𝓛 (‵ ((Rattle.std.specs.contracts.option.Option.the_row Part).own_val (Some made) (live 1 (of_list (w ∷ [])) ∷ []))) (Some-of 𝓛 Part made w) $
      suffices ! _ (ends_at 𝓛 F.ended stayed (F.clauses 𝓛 at_mem run) y (live 1 (of_list (w ∷ []))) (Some made) (tt, tt) (tt, tt)) $ says ! refl $
      nothing ! $ nothing ! $ fjoin ! $ join ! $ nothing ! $ join ! $ done !)
      (λ h. absurd h))

  none : (z : Bound) (p : Ptr) (a : Heap.the_row.Denot) (hv : Val) → Fits E.al hv → Goal z false p a None hv
  none z p a hv fa =
      let y = at z false p a None in
      qed 𝓛 (Held false p a None hv) ∵ drop ! $ drop ! $
      enter ! 𝓣.C 𝓣.Λ code.function (word false (ptr_val p) hv ∷ []) _ $ alloc_all ! (λ ls. pass_all ! refl (word_typed false p hv fa, tt) $
      sets ! (of_opd ! (get_in ! (fld ! refl (stop !)) (sub ! 0 refl (whole !)))) refl (tt, tt) $ sets ! (of_opd ! (get_in ! (fld ! refl (stop !)) (sub ! 1 refl (whole !)))) refl (ptr_typed p) $
      sets ! (of_opd ! (get_in ! (fld ! refl (stop !)) (sub ! 2 refl (whole !)))) refl fa $ sets ! (of_opd ! (get ! refl)) refl (tt, tt) $
      first ! $ branches ! (get ! refl)
      (λ h. absurd h)
      (λ _. skips ! $ exec ! 𝓣.C 𝓣.Λ (env code.Mir.locals ls) code.Mir.t-6 (at_ret _ (Post y)) $
      sets ! (agg ! (and_then ! (lit ! tt) (no_more !))) refl (tt, (record { fits = lit< tt }, tt)) $
      returns ! (look_at ! 0 refl) $ free_all ! refl $
      use0 𝓛 (‵ ((Rattle.std.specs.contracts.option.Option.the_row Part).own_val None (live 0 (of_list []) ∷ []))) (none_of 𝓛 Part) $
      suffices ! _ (ends_at 𝓛 F.ended stayed (F.clauses 𝓛 at_mem run) y (live 0 (of_list [])) None (tt, tt) (tt, tt)) $ says ! refl $
      nothing ! $ nothing ! $ fjoin ! $ join ! $ nothing ! $ join ! $ done !))

  each : (z : Bound) (y : Bool) (p : Ptr) (a : Heap.the_row.Denot) (h : Option (X E)) (hv : Val) → Fits E.al hv → Goal z y p a h hv
  each z true (block_ptr b o) a (Some x) hv fa = full z b o a x hv fa
  each z true null_ptr a (Some x) hv fa = qed 𝓛 (Held true null_ptr a (Some x) hv) ∵ keep ! (0 ∷ []) $ by ! (via 𝓤 _ (fst∗ 𝓤 (never 𝓤) (sem 𝓛 (token E.al a (bare (τ E)) null_ptr))) (never_e 𝓤 _))
  each z true p a None hv fa = qed 𝓛 (Held true p a None hv) ∵ keep ! (0 ∷ []) $ by ! (never_e 𝓤 _)
  each z false p a (Some x) hv fa = qed 𝓛 (Held false p a (Some x) hv) ∵ keep ! (0 ∷ []) $ by ! (never_e 𝓤 _)
  each z false p a None hv fa = none z p a hv fa

  walk : (z : Bound)
      → ent 𝓤 ((walk_of 𝓛 F.ended stayed (F.clauses 𝓛 at_mem run)).pre z) (WpFn 𝓤 H 𝓣.C 𝓣.Λ code.function (z.0.4.0 ++ []) (Post z))
  walk z =
      let d = z.0.3.0 in
      qed 𝓛 ((‵ ftrue ⊛ ‵ (fsep (Handed.the_row.own_val d z.0.4.0) ftrue)) ∷ raw (emp 𝓤) ∷ []) ∵ split ! $ drop ! $ fsplit ! $
      handle_out ! d z.0.4.0 (λ hv ws fa. keep ! (0 ∷ 1 ∷ []) $
      by ! (subst (λ (us : List Val). ent 𝓤 (types.Kit.⋆ 𝓛 (Held d.live d.ptr d.alloc d.held hv)) (WpFn 𝓤 H 𝓣.C 𝓣.Λ code.function (us ++ []) (Post z))) (sym ws)
      (each z d.live d.ptr d.alloc d.held hv fa)))

pub into_parts_spec : {M : Type 1} → stated.statement M
unfolding tables_of
into_parts_spec 𝓤 𝓛 𝓜 𝓡 wired =
    let 𝓣 : Tables 𝓤 𝓛.H = tables_of 𝓤 𝓛.H 𝓜 (tables 𝓤 𝓛.H 𝓜 𝓡 𝓡.env) in
    entered 𝓤 𝓛.H (triple_of 𝓛 F.signature (F.spec 𝓛 𝓜.mem 𝓡.returns)) 𝓣.C 𝓣.Λ #self code.function (code.unfolded 𝓤 𝓛.H 𝓜 𝓡 wired)
    (walk_Meets 𝓛 F.ended stayed (Goes-dropped 𝓛 0 From yes (λ κs x f. refl), tt) (F.clauses 𝓛 𝓜.mem 𝓡.returns) (WpFn 𝓤 𝓛.H 𝓣.C 𝓣.Λ code.function) (WpFn-mono 𝓤 𝓛.H 𝓛.laws 𝓣 code.function)
    (walk 𝓛 𝓜.mem 𝓡.returns 𝓣))
