use Rattle.std.proofs.Common.{rules, ◌≡◌, ℕ, suc, ◌+◌, ◌-◌, ◌<◌, true, List, [], ◌∷◌, ◌++◌, Bor, length, get_or, set, map, take, drop, reverse, sym, ap, ◌∙◌, arith}
use Rattle.std.proofs.lemmas.List.{length-map, length-set, length-take, map-set, take_more_set}
use Rattle.location_cache.specs.Offers.{is_offered, repositories}
use Rattle.location_cache.proofs.Offering.{offer_more, offer_full, offer_all}
use Rattle.location_cache.proofs.candidates.offered.Goals as goal
use Rattle.location_cache.proofs.candidates.offered.Goals.{then-loop-left-test+else-count-lt-MOST, else-loop-left-test}

abbrev now : Bor (List ℕ) → List ℕ
now s = s.now

pub loop-left-preserved-then-offers : goal.loop-left-preserved-then-offers
loop-left-preserved-then-offers c =
    let i = c.loop-left.invariant in
    let rows = c.args.rows.now in
    let left = c.loop-left.left - 1 in
    let count = c.loop-left.count in
    let found = c.loop-left.found in
    let row = c.index-rows-left.result in
    let some_left = c.loop-left-test.true in
    let room = c.if-count-lt-MOST.true in
    let within = i.within in
    let next : suc left ≡ c.loop-left.left = omega arith in
    let lt : left < length rows = omega arith in
    let at : get_or rows left row ≡ row = search rules in
    let is_one : is_offered c.args.host.now c.args.digest.now c.args.except.now row ≡ true = search rules in
    let size : length (map now found) ≡ 4 = length-map found now ∙ i.size in
    let more : take (count + 1) (map now (set found count c.as_str.result)) ≡ take count (map now found) ++ row.repository ∷ [] =
    ap (take (count + 1)) (map-set now found count c.as_str.result) ∙ take_more_set (map now found) count c.as_str.result.now (omega arith)
    ∙ ap (λ r. take count (map now found) ++ r ∷ []) c.as_str.ensures in
    record {
      within = omega arith;
      few = omega arith;
      size = length-set found count c.as_str.result ∙ i.size;
      found = offer_more c.args.host.now c.args.digest.now c.args.except.now rows left row (take count (map now found)) _ lt at is_one
          (i.found ∙ ap (λ n. reverse (repositories c.args.host.now c.args.digest.now c.args.except.now (drop n rows))) (sym next)) more;
    }

pub returns : goal.returns
returns c =
    let i = c.loop-left.invariant in
    let rows = c.args.rows.now in
    let count = c.loop-left.count in
    let found = c.loop-left.found in
    let few = i.few in
    let all : length (map now found) ≡ 4 = length-map found now ∙ i.size in
    let size = length-take count (map now found) in
    elim c.loop-left-test.branch [
      | then-loop-left-test+else-count-lt-MOST w ↦ (let full = w.if-count-lt-MOST.false in
          offer_full c.args.host.now c.args.digest.now c.args.except.now rows c.loop-left.left (take count (map now found)) i.found (omega arith))
      | else-loop-left-test w ↦ (let none = w.loop-left-test.false in let zero_left : c.loop-left.left ≡ 0 = omega arith in
          offer_all c.args.host.now c.args.digest.now c.args.except.now rows (take count (map now found))
          (i.found ∙ ap (λ n. reverse (repositories c.args.host.now c.args.digest.now c.args.except.now (drop n rows))) zero_left) (omega arith))
    ]
