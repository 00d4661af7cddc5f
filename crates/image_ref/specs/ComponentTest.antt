-- The grammar of components as a test, from the left: what the bytes so far end with.
use Rattle.std.specs.Prelude.{ℕ, List, Bool, true, false, if◌then◌else◌, ◌==◌}
use Rattle.std.specs.List.{fold}
use Rattle.image_ref.specs.Characters.{is_run_byte, dot, dash, underscore}
use Rattle.image_ref.specs.declared.component.Reached.{Reached}
use Rattle.image_ref.specs.declared.component.Reached.TheVariants.{Boundary, Run, Underscore, Dashes, Broken}

-- what a byte makes of what stands before it
abbrev pub reached_after : Reached → ℕ → Reached
reached_after Boundary b = if is_run_byte b then Run else Broken
reached_after Run b =
    if is_run_byte b then Run
    else if b == dot then Boundary
    else if b == underscore then Underscore
    else if b == dash then Dashes
    else Broken
reached_after Underscore b =
    if is_run_byte b then Run else if b == underscore then Boundary else Broken
reached_after Dashes b = if is_run_byte b then Run else if b == dash then Dashes else Broken
reached_after Broken b = Broken

-- whether a component ends here
abbrev pub ends_component : Reached → Bool
ends_component Run = true
ends_component _ = false

-- a component, as a test
unfoldable pub is_component : List ℕ → Bool
is_component text = ends_component (fold reached_after Boundary text)
