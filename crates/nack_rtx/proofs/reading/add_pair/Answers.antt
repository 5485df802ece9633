use Rattle.std.proofs.Common.{◌≡◌, ℕ, ◌+◌, ◌/◌, ◌%◌, ◌^◌, ◌==◌, true, false, cond, List, [], ◌∷◌, ap, sym, ◌∙◌, arith, eq-eqb}
use Rattle.std.proofs.lemmas.Bool.{ne_eqb}
use Rattle.nack_rtx.specs.Running.{adding}
use Rattle.nack_rtx.proofs.Naming.{names_none, names_more, names_all, names_to, at_bit}
use Rattle.nack_rtx.proofs.reading.add_pair.Goals as goal
use Rattle.nack_rtx.proofs.reading.add_pair.Goals.{then-bits-i-eq1+in_ok-add-2, else-bits-i-eq1}

pub loop-i-init : goal.loop-i-init
loop-i-init c = c.in_ok-add.ensures ∙ sym (names_none c.args.named.now c.args.own c.args.bits)

pub loop-i-preserved : goal.loop-i-preserved
loop-i-preserved c = elim c.if-bits-i-eq1.branch [
  | then-bits-i-eq1+in_ok-add-2 w ↦
      let set : (c.args.bits / 2 ^ c.loop-i.i % 2 == 1) ≡ true = eq-eqb _ 1 w.if-bits-i-eq1.true in
      w.named-is ∙ w.in_ok-add-2.ensures
      ∙ sym (ap (λ b. adding c.loop-i.named (cond b ((c.args.own + (c.loop-i.i + 1)) % 65536 ∷ []) [])) set)
      ∙ ap (λ (xs : List ℕ). adding xs (at_bit c.args.own c.args.bits c.loop-i.i)) c.loop-i.invariant
      ∙ sym (names_more c.args.named.now c.args.own c.args.bits c.loop-i.i)
  | else-bits-i-eq1 w ↦
      let clear : (c.args.bits / 2 ^ c.loop-i.i % 2 == 1) ≡ false = ne_eqb _ 1 w.if-bits-i-eq1.false in
      w.named-is
      ∙ sym (ap (λ b. adding c.loop-i.named (cond b ((c.args.own + (c.loop-i.i + 1)) % 65536 ∷ []) [])) clear)
      ∙ ap (λ (xs : List ℕ). adding xs (at_bit c.args.own c.args.bits c.loop-i.i)) c.loop-i.invariant
      ∙ sym (names_more c.args.named.now c.args.own c.args.bits c.loop-i.i)
]

pub returns : goal.returns
returns c =
    let all : c.loop-i.i ≡ 16 = omega arith in
    c.loop-i.invariant ∙ ap (λ i. adding c.args.named.now (names_to c.args.own c.args.bits i)) all ∙ ap (adding c.args.named.now) (names_all c.args.own c.args.bits)
