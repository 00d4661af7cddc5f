-- What a list holds beside its last item.
use Rattle.std.proofs.Common.{◌≡◌, ◌∷◌, ◌++◌, List, [], ℕ, Contains, sym, subst}
use Rattle.std.proofs.lemmas.List.Elements.{Contains-append_left}

-- an item that was there before is there still
pub push_other : (xs : List (List ℕ)) (d other : List ℕ) → Contains xs other → Contains (xs ++ d ∷ []) other
push_other xs d other c = Contains-append_left xs (d ∷ []) other c

pub equal_all : (xs ys : List (List ℕ)) (other : List ℕ) → ys ≡ xs → Contains xs other → Contains ys other
equal_all xs ys other e c = subst (λ l. Contains l other) (sym e) c
