-- Fields joined by commas. Assumes nothing.
use Rattle.std.proofs.Common.{◌≡◌, ℕ, List, [], ◌∷◌, ◌++◌, sym, ap, ◌∙◌}
use Rattle.std.specs.List.{flat_map, join_with_byte}
use Rattle.std.proofs.lemmas.List.{append-nil, append_assoc}
use Rattle.events.specs.Writing.{line_end}

-- the first field, and each other after a comma
pub joined : (f : List ℕ) (fs : List (List ℕ)) → f ++ flat_map (λ t. 44 ∷ t) fs ≡ join_with_byte 44 (f ∷ fs)
joined f [] = append-nil f
joined f (g ∷ fs) = ap (λ t. f ++ 44 ∷ t) (joined g fs)

pub line_joined : (f : List ℕ) (fs : List (List ℕ)) → f ++ (flat_map (λ t. 44 ∷ t) fs ++ 10 ∷ []) ≡ line_end (f ∷ fs)
line_joined f fs = sym (append_assoc f (flat_map (λ t. 44 ∷ t) fs) (10 ∷ [])) ∙ ap (λ t. t ++ 10 ∷ []) (joined f fs)
