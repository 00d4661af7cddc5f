-- Receipts taken from outcomes one by one.
use Rattle.std.proofs.Common.{◌≡◌, Ok, Err, List, [], ◌∷◌, ◌++◌, map, sym, ap, ◌∙◌, append_assoc}
use Rattle.std.proofs.lemmas.List.{map-append}
use Rattle.copy_workers.specs.declared.receipt.Outcome.{Outcome}
use Rattle.copy_workers.specs.Receipts.{Issued}
use Rattle.copy_workers.specs.declared.receipt.How.{How}
use Rattle.copy_workers.specs.declared.cause.Cause.{Cause}
use Rattle.copy_workers.specs.Outcomes.{outcome_of, IsFirstFault}

pub one_more : (all rest now : List Outcome) (done after : List Issued) (o : Outcome) (how : How) → map outcome_of done ++ rest ≡ all → rest ≡ o ∷ now → o.end ≡ Ok how
    → after ≡ done ++ record { job = o.job; lane = o.lane; how = how } ∷ [] → map outcome_of after ++ now ≡ all
one_more all rest now done after o how so e end f =
    let r : Issued = record { job = o.job; lane = o.lane; how = how } in
    let is : outcome_of r ≡ o = ap (λ x. record { job = o.job; lane = o.lane; end = x }) (sym end) in
    ap (λ l. map outcome_of l ++ now) f ∙ ap (λ l. l ++ now) (map-append outcome_of done (r ∷ [])) ∙ append_assoc (map outcome_of done) (outcome_of r ∷ []) now
    ∙ ap (λ x. map outcome_of done ++ x ∷ now) is ∙ ap (λ l. map outcome_of done ++ l) (sym e) ∙ so

pub first_fault : (all rest now : List Outcome) (done : List Issued) (o : Outcome) (cause : Cause) → map outcome_of done ++ rest ≡ all → rest ≡ o ∷ now → o.end ≡ Err cause
    → IsFirstFault all record { job = o.job; cause = cause }
first_fault all rest now done o cause so e end = record {
  before = done;
  lane = o.lane;
  rest = now;
  is = sym so ∙ ap (λ l. map outcome_of done ++ l) e ∙ ap (λ x. map outcome_of done ++ record { job = o.job; lane = o.lane; end = x } ∷ now) end;
}
