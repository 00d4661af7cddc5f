-- The next chunk, from the calls that receive its parts.
use Rattle.std.proofs.Common.{◌≡◌, ℕ, ◌<◌, inl, inr, Bool, List, ◌++◌, refl, subst, append_assoc, Ok, Err}
use Rattle.skopeo_outside.specs.Wire.{Conversations, GoesOn, with_received}
use Rattle.skopeo_outside.proofs.WireLemmas.{receives_more}
use Rattle.http_message.specs.declared.fault.AnswerFault.{AnswerFault}
use Rattle.http_message.specs.Outcome.{Outcome}
use Rattle.http_message.specs.Chunks.{StartsWithChunkLine, NoTrailer, NoChunkLine}
use Rattle.http_message.specs.ChunkedBody.{no_trailer}
use Rattle.http_exchange.specs.declared.state.State.TheVariants.{Chunk, Over}
use Rattle.http_exchange.specs.Received.{Held, Receives}
use Rattle.http_exchange.specs.Found.{ChunkLineFound, TrailerFound, NextFound, another, last, NoNext}
use Rattle.http_exchange.proofs.Rounds.{noted_more, stops_behind}
use Rattle.http_exchange.proofs.ChunkRuns.{behind, line-append}

pub no_line : (o : Outcome) (all : List ℕ) (ended : Bool) → NoChunkLine o all ended → NoNext o all ended
no_line o all ended none limit had = inl none

-- the line of a chunk with bytes
pub one_line : {a b : Conversations} {h k : Held} (size : ℕ) → 0 < size → Receives a b h k (ChunkLineFound k.waiting) NoChunkLine (Ok size)
    → Receives a b h k (NextFound k.waiting) NoNext (Ok (Chunk size))
one_line size some p = record {
  added = p.added;
  ended = p.ended;
  told = p.told;
  noted = p.noted;
  gives = another p.gives.0 size p.gives.1 some refl p.gives.2 p.gives.3;
}

-- the line of the last chunk, and the trailer part
pub last_line : {a b c : Conversations} {h k m : Held} (size : ℕ) (x : Unit {0}) → size ≡ 0 → Receives a b h k (ChunkLineFound k.waiting) NoChunkLine (Ok size)
    → Receives b c k m (λ (u : Unit {0}). TrailerFound m.waiting) NoTrailer (Ok x) → Receives a c h m (NextFound m.waiting) NoNext (Ok Over)
last_line {a} {b} {c} {h} {k} {m} size x zero_size p q =
    let n = p.gives.0 in
    let line = subst (λ (s : ℕ). StartsWithChunkLine (h.waiting ++ p.added) n s) zero_size p.gives.1 in
    let rest = behind n (h.waiting ++ p.added) q.added k.waiting line.block.within p.gives.2 in
    record {
      added = p.added ++ q.added;
      ended = q.ended;
      told = receives_more p.added q.added q.ended a b c (subst (λ (t : Bool). GoesOn (with_received p.added t) a b) p.gives.3 p.told) q.told;
      noted = noted_more p.added q.added p.noted q.noted;
      gives = subst (λ (w : List ℕ). NextFound m.waiting Over w q.ended) (append_assoc h.waiting p.added q.added) (last (record {
        n = n;
        line = line-append (h.waiting ++ p.added) q.added n 0 line;
        m = q.gives.0;
        trailer = rw (← rest) q.gives.1;
      }) refl q.gives.3);
    }

-- the line of the last chunk, and no trailer part
pub no_trailer_line : {a b c : Conversations} {h k m : Held} (size : ℕ) (e : AnswerFault) → size ≡ 0 → Receives a b h k (ChunkLineFound k.waiting) NoChunkLine (Ok size)
    → Receives b c k m (λ (u : Unit {0}). TrailerFound m.waiting) NoTrailer (Err e) → Receives a c h m (NextFound m.waiting) NoNext (Err e)
no_trailer_line {a} {b} {c} {h} {k} {m} size e zero_size p q =
    let n = p.gives.0 in
    let line = subst (λ (s : ℕ). StartsWithChunkLine (h.waiting ++ p.added) n s) zero_size p.gives.1 in
    stops_behind p.added (λ (u : Unit {0}). TrailerFound m.waiting) NoTrailer (NextFound m.waiting) NoNext e
    (subst (λ (t : Bool). GoesOn (with_received p.added t) a b) p.gives.3 p.told) p.noted q
    (λ o more ended none limit had. inr (
      n,
      0,
      line-append (h.waiting ++ p.added) more n 0 line,
      no_trailer refl (subst (λ (w : List ℕ). NoTrailer o w ended) (behind n (h.waiting ++ p.added) more k.waiting line.block.within p.gives.2) none),
    ))
