-- Definitions over a list of entries whose steps also see the entries before.
use Rattle.std.proofs.Common.{List, [], ◌∷◌, ◌++◌}

-- a fold whose step also sees what stood before
abbrev pub walk_from : {A B : Type 0} → (List A → B → A → B) → List A → B → List A → B
walk_from f before b [] = b
walk_from f before b (x ∷ xs) = walk_from f (before ++ x ∷ []) (f before b x) xs

abbrev pub walk : {A B : Type 0} → (List A → B → A → B) → B → List A → B
walk f b xs = walk_from f [] b xs

-- what each element gives, by those before it
abbrev pub each_by : {A B : Type 0} → (List A → A → B) → List A → List A → List B
each_by f before [] = []
each_by f before (x ∷ xs) = f before x ∷ each_by f (before ++ x ∷ []) xs
