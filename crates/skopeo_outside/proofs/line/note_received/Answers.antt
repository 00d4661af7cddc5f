use Rattle.std.proofs.Common.{rules, ap, List, ℕ, ◌==◌, true, false, ◌≡◌, ◌∙◌, sym, Option, length, map}
use Rattle.skopeo_outside.specs.declared.line.Talk.{Talk}
use Rattle.skopeo_outside.specs.Wire.{with_received, on_last}
use Rattle.skopeo_outside.specs.Talks.{kept, all_kept}
use Rattle.skopeo_outside.proofs.WireLemmas.{last_step, received_end, received_some}
use Rattle.skopeo_outside.proofs.line.note_received.Goals as goal

pub returns-then-is_empty-clause-ok : goal.returns-then-is_empty-clause-ok
returns-then-is_empty-clause-ok c = λ past.
    let p = c.args.piece.now in
    let empty : true ≡ (length c.args.piece.now == 0) = search rules in
    last_step (with_received p (length p == 0)) (map kept past) (kept c.in-Some.talk) _
    (received_end p (kept c.in-Some.talk) empty)
    ∙ ap (λ (o : Option Talk). on_last (with_received p (length p == 0)) (all_kept past o)) (sym c.in-Some.is)

pub returns-in_ok-extend_from_slice-clause-ok : goal.returns-in_ok-extend_from_slice-clause-ok
returns-in_ok-extend_from_slice-clause-ok c = λ past.
    let p = c.args.piece.now in
    let some : false ≡ (length c.args.piece.now == 0) = search rules in
    last_step (with_received p (length p == 0)) (map kept past) (kept c.in-Some.talk) _
    (ap (λ (xs : List ℕ). record (kept c.in-Some.talk) { received = xs }) c.in_ok-extend_from_slice.ensures.items
    ∙ received_some p (kept c.in-Some.talk) some)
    ∙ ap (λ (o : Option Talk). on_last (with_received p (length p == 0)) (all_kept past o)) (sym c.in-Some.is)
