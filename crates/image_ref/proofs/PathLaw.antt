-- A text without a bad component is a path, and every path is such a text.
use Rattle.std.proofs.Common.{◌≡◌, ℕ, List, Option, Some, None, sym, ap, ◌∙◌, Bool, true, false, not, refl}
use Rattle.std.specs.Prelude.{IsTrue, ◌↔◌, is_some}
use Rattle.std.proofs.lemmas.List.Splits.{join_with_byte-slice_split}
use Rattle.image_ref.specs.Characters.{slash}
use Rattle.image_ref.specs.Pieces.{components_of}
use Rattle.image_ref.specs.Reference.{IsPath}
use Rattle.image_ref.specs.Reading.{bad_component}
use Rattle.image_ref.proofs.DomainLaw.{parts-joined, parts-some}
use Rattle.image_ref.proofs.JoinedCuts.{no_slash}
use Rattle.image_ref.proofs.JudgedLemmas.{components_pass, are_components, pass_components, components_are}

path_to : (text : List ℕ) → bad_component 0 (components_of text) ≡ None → IsPath text
path_to text h = record {
  components = components_of text;
  joined = sym (join_with_byte-slice_split slash text);
  some = parts-some slash text;
  are_components = are_components (components_of text) (components_pass 0 (components_of text) h);
}

path_from : (text : List ℕ) → IsPath text → bad_component 0 (components_of text) ≡ None
path_from text p =
    ap (λ t. bad_component 0 (components_of t)) p.joined
    ∙ ap (bad_component 0) (parts-joined slash p.components p.some (no_slash p.components p.are_components))
    ∙ pass_components 0 p.components (components_are p.components p.are_components)

none_found : (o : Option ℕ) (b : Bool) → is_some o ≡ not b → b ≡ true → o ≡ None
none_found None b e t = refl
none_found (Some n) b e t = cc (e, ap not t)

found_none : (o : Option ℕ) (b : Bool) → is_some o ≡ not b → o ≡ None → b ≡ true
found_none o true e n = refl
found_none o false e n = cc (e, ap is_some n)

pub path_passes : (text : List ℕ) (found : Option ℕ) (b : Bool) → found ≡ bad_component 0 (components_of text) → is_some found ≡ not b → IsTrue b ↔ IsPath text
path_passes text found b e f = (λ t. path_to text (sym e ∙ none_found found b f t), λ p. found_none found b f (e ∙ path_from text p))
