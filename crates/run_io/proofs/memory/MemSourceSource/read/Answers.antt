use Rattle.std.proofs.Common.{◌≡◌, ℕ, ◌+◌, ◌<◌, min, List, [], ◌++◌, length, take, drop, sym, ◌∙◌, ap, arith, add-zero}
use Rattle.std.proofs.lemmas.List.{drop-drop, take-append-drop, nil_from_length}
use Rattle.run_io.proofs.memory.MemSourceSource.read.Goals as goal

-- what was left is what was given, and then what is left now
gives : (told bytes lent left to : List ℕ) (at n : ℕ) → drop at bytes ≡ told → lent ≡ bytes → left ≡ drop at lent → take n to ≡ take n left
    → told ≡ take n to ++ drop (at + n) bytes
gives told bytes lent left to at n said lends is taken =
    rw (taken, is, lends, ← drop-drop n at bytes, take-append-drop n (drop at bytes)) (sym said)

-- nothing is given only where nothing is left
ends : (bytes lent left : List ℕ) (at n piece few room : ℕ) → lent ≡ bytes → left ≡ drop at lent → few ≡ min piece (length left) → n ≡ min few room
    → 0 < piece → 0 < room → n ≡ 0 → drop (at + n) bytes ≡ []
ends bytes lent left at n piece few room lends is first second some here none =
    let all : left ≡ [] = nil_from_length left (omega arith) in
    rw (none, add-zero) (ap (drop at) (sym lends) ∙ sym is ∙ all)

pub returns-clause-bytes : goal.returns-clause-bytes
returns-clause-bytes c = (
  gives _ _ _ _ _ c.self.inside.at _ (ap (λ s. s.left) c.self.view_is) c.as_slice-2.ensures.items c.split_at.ensures.back c.copy_front.ensures,
  λ none here. ends _ _ _ c.self.inside.at _ _ _ _ c.as_slice-2.ensures.items c.split_at.ensures.back c.min.ensures c.min-count.ensures
      c.self.invariant.1 c.requires none,
)
