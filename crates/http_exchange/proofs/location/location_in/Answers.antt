use Rattle.std.proofs.Common.{◌≡◌, sym, ap, ◌∙◌, List, ℕ, map, codes, true, false}
use Rattle.std.proofs.lemmas.List.{drop_all}
use Rattle.http1.specs.Text.{eq_ignore_case}
use Rattle.skopeo_outside.specs.declared.pair.Pair.{Pair}
use Rattle.http_message.specs.Shown.{pair_bytes}
use Rattle.http_exchange.specs.Locations.{location_in}
use Rattle.http_exchange.proofs.LocationLemmas.{location_found, location_behind}
use Rattle.http_exchange.proofs.location.location_in.Goals as goal

pub returns-then-eq_ignore_case : goal.returns-then-eq_ignore_case
returns-then-eq_ignore_case c =
    let name = c.as_bytes.ensures.value ∙ c.as_str.ensures in
    let named : eq_ignore_case c.pair-item.result.name (codes "location") ≡ true
    = ap (λ (w : List ℕ). eq_ignore_case w (codes "location")) (sym name) ∙ sym c.if-eq_ignore_case.ensures in
    rw c.as_str-then-eq_ignore_case.ensures (sym (location_found c.args.headers.now c.loop-pair.pair-index c.pair-item.result c.loop-pair-test.true (sym c.pair-item.is) named)
    ∙ c.loop-pair.invariant)

pub loop-pair-preserved : goal.loop-pair-preserved
loop-pair-preserved c =
    let name = c.as_bytes.ensures.value ∙ c.as_str.ensures in
    let named : eq_ignore_case c.pair-item.result.name (codes "location") ≡ false
    = ap (λ (w : List ℕ). eq_ignore_case w (codes "location")) (sym name) ∙ sym c.if-eq_ignore_case.ensures in
    sym (location_behind c.args.headers.now c.loop-pair.pair-index c.pair-item.result c.loop-pair-test.true (sym c.pair-item.is) named) ∙ c.loop-pair.invariant

pub returns : goal.returns
returns c =
    sym (ap (λ (hs : List Pair). location_in (map pair_bytes hs)) (drop_all c.loop-pair.pair-index c.args.headers.now c.loop-pair-test.false)) ∙ c.loop-pair.invariant
