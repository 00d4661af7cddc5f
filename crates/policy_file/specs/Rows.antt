-- Tables of faults: of the rows of a table the first counts that finds one.
use Rattle.std.specs.Prelude.{◌≡◌, ◌⊎◌, List, [], ◌∷◌}
use Rattle.json_tree.specs.declared.path.Step.{Step}
use Rattle.policy_file.specs.declared.fault.PolicyKind.{PolicyKind}

-- a fault: its kind, and the steps from a value to the member at fault
abbrev pub Fault : Type 0
Fault = PolicyKind × List Step

-- a row of a table: the faults that it finds
abbrev pub Row : Type 1
Row = Fault → Type 0

-- where this is so, there is one fault
abbrev pub row : Type 0 → PolicyKind → List Step → Row
row so kind path fault = so × (fault ≡ (kind, path))

-- a row finds no fault
abbrev pub FindsNone : Row → Type 0
FindsNone r = (fault : Fault) → r fault → ⊥

-- the first row of a table that finds a fault
abbrev pub FirstOf : List Row → Row
FirstOf [] fault = ⊥
FirstOf (r ∷ rows) fault = r fault ⊎ (FindsNone r × FirstOf rows fault)

-- a fault one step further in
pub record Under (step : Step) (r : Row) (fault : Fault) : Type 0 where
  pub inner : Fault
  pub is : fault ≡ (inner.0, step ∷ inner.1)
  pub finds : r inner

-- a row that counts where this is so
abbrev pub Where : Type 0 → Row → Row
Where so r fault = so × r fault
