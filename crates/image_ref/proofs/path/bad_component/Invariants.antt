use Rattle.std.proofs.Common.{◌≡◌, ◌+◌, ◌≤◌, length}
use denote.Text.{Utf8}
use denote.Shadow.{shadow}
use Rattle.image_ref.specs.Reading.{bad_component}
use Rattle.image_ref.specs.Pieces.{components_of}
use Rattle.image_ref.proofs.path.bad_component.Given as goal

-- what is left has the answer of the whole
abbrev pub invariant-loop-part : goal.invariant-loop-part
invariant-loop-part l = record {
  text : shadow (Utf8 l.rest);
  room : l.at + length l.rest ≤ l.begins + length l.path;
  left : bad_component l.at (components_of l.rest) ≡ bad_component l.begins (components_of l.path);
}

abbrev pub decreases-loop-part : goal.decreases-loop-part
decreases-loop-part l = length l.rest
