-- Lists that contracts see as their items and a promise of room.
use Rattle.std.specs.Prelude.{ℕ, List, refl}
use Rattle.std.specs.Coded.{Coded, code_by, coded×, coded_list, coded_ℕ}

-- the items, and how many more fit without memory being asked for
pub record Listed (T : Type 0) : Type 0 where
  pub items : List T
  pub spare : ℕ

-- a list is stored as its two fields
abbrev pub coded_listed : {T : Type 0} → Coded T → Coded (Listed T)
coded_listed {T} c =
    code_by (List T × ℕ) (coded× (coded_list c) coded_ℕ) (λ l. (l.items, l.spare)) (λ p. record { items = p.0; spare = p.1 }) (λ _. refl)

-- a list with no promise of room
abbrev pub bare : {T : Type 0} → List T → Listed T
bare xs = record { items = xs; spare = 0 }
