-- Ranges of what is kept, and numbers of the code without their casts.
use Rattle.std.proofs.Common.{ℕ, ℤ, pos, ◌≡◌, ◌-ℤ◌, ◌*ℤ◌, ◌*◌, ◌/◌, ◌≤◌, ◌<◌, ◌^◌, Some, FitsSigned, to_z, of_z, subst, arith}
use Rattle.std.specs.Int.{w64, w128}
use Rattle.std.proofs.lemmas.Int.{ints}
use Rattle.gcc_units.specs.declared.shared_types.Credit.{Credit}
use Rattle.packet_groups.specs.declared.TheConstants.{ARRIVAL_Q16, MILLISECOND_Q16}
use Rattle.packet_groups.specs.declared.step.Group.{Group}
use Rattle.packet_groups.specs.declared.step.State.{State}
use Rattle.packet_groups.specs.Kept.{IsWithin, IsGroupKept, IsKept, with}

pub delay_is : (n : ℕ) (z : ℤ) → n < 2 ^ 64 → FitsSigned w64 z
    → to_z w128 (of_z w128 (to_z w128 (of_z w128 (pos 16384 *ℤ to_z w128 (of_z w128 (to_z w64 (of_z w64 z))))) -ℤ to_z w128 (65536 * n / 1000)))
    ≡ ARRIVAL_Q16 *ℤ z -ℤ pos (MILLISECOND_Q16 * n / 1000)
delay_is n z small fits = omega (arith, ints)

-- a group stays in its range with a credit that was sent no earlier than its last packet
pub kept_with : (now : State) (g : Group) (c : Credit) → now.current ≡ Some g → IsKept now → IsWithin c → g.last.sent_at ≤ c.sent_at
    → IsKept (record { current = Some (with g c); before = now.before })
kept_with now g c is kept within behind =
    record {
      current = λ x e. let h = kept.current g is in let same : with g c ≡ x = cc in subst IsGroupKept same (record { ordered = omega arith; last = within });
      before = λ p e. record {
        within = (kept.before p e).within;
        ordered = λ x f. let h = (kept.before p e).ordered g is in let same : with g c ≡ x = cc in
            let P : Group → Type 0 = λ y. p.sent_at ≤ y.last.sent_at in subst P same (omega arith);
      };
    }
