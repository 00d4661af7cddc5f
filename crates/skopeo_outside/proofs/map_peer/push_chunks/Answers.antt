use Rattle.std.proofs.Common.{◌≡◌, ◌∙◌, ◌++◌, ◌+◌, ◌-◌, ℕ, List, length, take, drop, min, suc, arith, rules, append_assoc}
use Rattle.std.proofs.lemmas.List.{take_min, drop_min}
use Rattle.skopeo_outside.specs.Peer.{chunk, chunks}
use Rattle.skopeo_outside.proofs.map_peer.push_chunks.Goals as goal

-- one chunk more is written, and one fewer is left
one_more : (size n k : ℕ) (rest piece more into mid all : List ℕ) → n ≡ suc k → mid ≡ into ++ chunk piece
    → piece ≡ take (min size (length rest)) rest → more ≡ drop (min size (length rest)) rest
    → into ++ chunks n size rest ≡ all → mid ++ chunks k size more ≡ all
one_more size n k rest piece more into mid all e m p q h =
    let front : piece ≡ take size rest = p ∙ take_min size rest in
    let back : more ≡ drop size rest = q ∙ drop_min size rest in
    let left : mid ++ chunks k size more ≡ (into ++ chunk (take size rest)) ++ chunks k size (drop size rest) = cc in
    let whole : into ++ chunks (suc k) size rest ≡ all = cc in
    left ∙ append_assoc into (chunk (take size rest)) (chunks k size (drop size rest)) ∙ whole

pub loop-preserved : goal.loop-preserved
loop-preserved c =
    let left : c.args.count - c.loop.counter ≡ suc (c.args.count - (c.loop.counter + 1)) = omega arith in
    let cut : c.min.result ≡ min c.args.size (length c.loop.rest.now) = cc in
    let mid : c.push_chunk.new.into ≡ c.loop.into ++ chunk c.split_at.result.0.now = search rules in
    let piece : c.split_at.result.0.now ≡ take (min c.args.size (length c.loop.rest.now)) c.loop.rest.now = cc in
    let more : c.split_at.result.1.now ≡ drop (min c.args.size (length c.loop.rest.now)) c.loop.rest.now = cc in
    one_more c.args.size (c.args.count - c.loop.counter) (c.args.count - (c.loop.counter + 1)) c.loop.rest.now
    c.split_at.result.0.now c.split_at.result.1.now c.loop.into c.push_chunk.new.into
    (c.args.into.now ++ chunks c.args.count c.args.size c.args.body.now) left mid piece more c.loop.invariant
