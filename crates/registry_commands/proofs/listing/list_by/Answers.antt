use Rattle.std.proofs.Common.{◌≡◌, ◌∙◌, ℕ, List, Result, Err, rules, subst, sym}
use Rattle.registry_commands.specs.declared.fault.CommandFault.{CommandFault}
use Rattle.registry_commands.specs.Lists.{Listing}
use Rattle.registry_commands.proofs.ListLemmas.{listing_refused, listing_at}
use Rattle.registry_commands.proofs.listing.list_by.Goals as goal

pub returns-in_err-sources : goal.returns-in_err-sources
returns-in_err-sources g c =
    let e = c.in_err-sources.field-0.0 in
    let r : ◌≡◌ {A = Result (List (List ℕ)) CommandFault} c.from_residual.result (Err e) = search rules in
    record {
      ends = subst (λ (x : Result (List (List ℕ)) CommandFault). Listing c.args.conf.now c.args.tls c.args.repository.now c.args.lane.now c.args.lane.now x) (sym r)
          (listing_refused c.args.conf.now c.args.tls c.args.repository.now e c.args.lane.now c.in_err-sources.ensures.refused);
    }

pub returns : goal.returns
returns g c = record {
  ends = listing_at c.args.conf.now c.args.tls c.args.repository.now c.in_ok-sources.sources c.last_of-primary.result.now c.args.lane.now c.tags_at.new.lane c.tags_at.result c.in_ok-sources.ensures.has
      (λ front t joined. c.last_of-primary.ensures front t (c.as_slice.ensures ∙ joined)) c.tags_at.ensures.ends c.tags_at.ensures.on;
}
