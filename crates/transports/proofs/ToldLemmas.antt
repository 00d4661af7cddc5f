-- Steps of files, where they are told.
use Rattle.std.proofs.Common.{◌≡◌, Option, Some, None, IfSome, sym, subst}
use Rattle.std.specs.Option.{option_map}
use Rattle.skopeo_outside.specs.Tree.{Tree}
use Rattle.skopeo_outside.specs.Outside.{Told}

-- a relation, told otherwise
pub told_as : (R S : Tree → Tree → Type 0) → ((a b : Tree) → R a b → S a b) → (x y : Option Tree) → Told R x y → Told S x y
told_as R S step None y r = tt
told_as R S step (Some a) None r = r
told_as R S step (Some a) (Some b) r = step a b r

module _ (R S : Tree → Tree → Type 0) (P : Tree → Type 0) where
  -- a step that changes nothing
  pub step_same : ((a b : Tree) → R a b → P b → S a b) → (x y z : Option Tree) → Told R x y → IfSome y P → z ≡ y → Told S x z
  step_same go None y z r p e = tt
  step_same go (Some a) None z r p e = absurd r
  step_same go (Some a) (Some b) z r p e = subst (λ o. Told S (Some a) o) (sym e) (go a b r p)

  -- one that is a function of the tree
  pub step_by : (f : Tree → Tree) → ((a b : Tree) → R a b → P b → S a (f b)) → (x y z : Option Tree) → Told R x y → IfSome y P → z ≡ option_map f y → Told S x z
  step_by f go None y z r p e = tt
  step_by f go (Some a) None z r p e = absurd r
  step_by f go (Some a) (Some b) z r p e = subst (λ o. Told S (Some a) o) (sym e) (go a b r p)

-- a step that is a function of the tree
pub told_by : (f : Tree → Tree) (P : Tree → Type 0) (S : Tree → Tree → Type 0) → ((a : Tree) → P a → S a (f a)) → (x z : Option Tree) → IfSome x P → z ≡ option_map f x → Told S x z
told_by f P S go None z p e = tt
told_by f P S go (Some a) z p e = subst (λ o. Told S (Some a) o) (sym e) (go a p)

-- what is told behind it
pub now_by : (f : Tree → Tree) (P Q : Tree → Type 0) → ((a : Tree) → P a → Q (f a)) → (x z : Option Tree) → IfSome x P → z ≡ option_map f x → IfSome z Q
now_by f P Q go None z p e = subst (λ o. IfSome o Q) (sym e) tt
now_by f P Q go (Some a) z p e = subst (λ o. IfSome o Q) (sym e) (go a p)
