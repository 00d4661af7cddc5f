use Rattle.std.proofs.Common.{◌≡◌, rules, option_map}
use Rattle.image_ref.specs.Pieces.{Pieces}
use Rattle.image_ref.specs.Reading.{pieces_of}
use Rattle.image_ref.proofs.PieceLaw.{places_of}
use Rattle.image_ref.proofs.split.pieces_of.Goals as goal

pub returns-clause-places : goal.returns-clause-places
returns-clause-places c =
    let found : Pieces = record {
      host = option_map (λ t. t.now) c.split_name.result.0;
      path = c.split_name.result.1.now;
      tag = option_map (λ t. t.now) c.cut_tag.result.1;
      digest = option_map (λ t. t.now) c.cut_at.result.1;
    } in
    let same : found ≡ pieces_of c.args.text.now = search rules in
    let at = places_of c.args.text.now c.cut_at.result.0.now c.cut_tag.result.0.now found same c.cut_at.ensures.before c.cut_tag.ensures.before in
    record { path = at.0; tag = at.1; digest = at.2 }
