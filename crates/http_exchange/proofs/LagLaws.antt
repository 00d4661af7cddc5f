-- What was given of a body is a front of it, and lags by what waits.
use Rattle.std.proofs.Common.{◌≡◌, ℕ, suc, zero, ◌+◌, ◌<◌, ◌≤◌, ◌⊎◌, inl, inr, Bool, false, List, ◌++◌, length, length-append, length-take, length-drop, take, drop, refl, arith, ap, subst, ◌∙◌, append_assoc, Option, None, IfSome, MatchOption}
use Rattle.http_message.specs.declared.fault.AnswerFault.{AnswerFault}
use Rattle.http_message.specs.declared.framing.Framing.{Framing}
use Rattle.http_message.specs.declared.framing.Framing.TheVariants.{Sized, ToEnd}
use Rattle.http_message.specs.Outcome.{outcome_of}
use Rattle.http_message.specs.Chunks.{StartsWithChunkLine}
use Rattle.http_message.specs.ChunkedBody.{OneChunk, Chunks, ChunkedBody}
use Rattle.http_message.specs.Spelling.{FramedBody}
use Rattle.http_message.proofs.UniqueBlocks.{le_or_lt}
use Rattle.http_message.proofs.UniqueChunkParts.{line_unique}
use Rattle.http_exchange.specs.declared.state.State.{State}
use Rattle.http_exchange.specs.declared.state.State.TheVariants.{Left, Open, Line, Chunk, Over}
use Rattle.http_exchange.specs.Streaming.{IsFront, IsNoBody}
use Rattle.http_exchange.specs.Reader.{Reader, InChunk, Stands, Streams, is_over}
use Rattle.http_exchange.specs.Behind.{IsBehind, WaitingLags, CallKeeps}
use Rattle.http_exchange.proofs.ChunkRuns.{line-append, chunks-append, chunks_same, longer, chunks_front}
use Rattle.http_exchange.proofs.Settling.{whole_content}
use Rattle.http_exchange.proofs.Giving.{sized_front, open_front, chunk_front, body_front}

-- ---- how long runs of chunks are

one_bytes : (bytes body rest : List ℕ) (n size : ℕ) → (one : OneChunk bytes body rest) → StartsWithChunkLine bytes n size
    → length body + length rest ≤ length (drop n bytes)
one_bytes bytes body rest n size one line =
    let same = line_unique bytes n one.n size one.size line one.line in
    let cut : length (drop n bytes) ≡ length (drop one.n bytes) = ap (λ (k : ℕ). length (drop k bytes)) same.0 in
    let front : length body ≡ length (take one.size (drop one.n bytes)) = ap (λ (w : List ℕ). length w) one.content.body_is in
    let tail : length rest ≡ length (drop (one.size + 2) (drop one.n bytes)) = ap (λ (w : List ℕ). length w) one.rest_is in
    omega (arith, cut, front, tail, one.content.whole, length-take one.size (drop one.n bytes), length-drop (one.size + 2) (drop one.n bytes))

one_all : (bytes body rest : List ℕ) → OneChunk bytes body rest → length body + length rest ≤ length bytes
one_all bytes body rest one = omega (arith, one_bytes bytes body rest one.n one.size one one.line, length-drop one.n bytes)

-- a longer run of the same bytes has no more left to give than the shorter one has before it
later_bytes : (c d : ℕ) (bytes a b x y : List ℕ) → c ≤ d → Chunks c bytes a x → Chunks d bytes b y → length b + length y ≤ length a + length x
later_bytes zero zero bytes a b x y le p q =
    let same = chunks_same zero bytes a b x y p q in
    omega (arith, ap (λ (w : List ℕ). length w) same.0, ap (λ (w : List ℕ). length w) same.1)
later_bytes (suc c) zero bytes a b x y le p q = absurd (omega (arith, le))
later_bytes c (suc d) bytes a b x y le p q = by_order (le_or_lt c d) (λ less. later_bytes c d bytes a q.0 x q.1 less p q.3)
  where
    by_order : (c ≤ d) ⊎ (d < c) → (c ≤ d → length q.0 + length q.1 ≤ length a + length x) → length b + length y ≤ length a + length x
    by_order (inl less) before =
        let earlier = before less in
        let one = one_all q.1 q.2 y q.4 in
        let all : length b ≡ length q.0 + length q.2 = ap (λ (w : List ℕ). length w) q.5 ∙ length-append {A = ℕ} q.0 q.2 in
        omega (arith, earlier, one, all)
    by_order (inr more) before =
        let e : suc d ≡ c = omega (arith, le, more) in
        let same = chunks_same c bytes a b x y p (subst (λ (k : ℕ). Chunks k bytes b y) e q) in
        omega (arith, ap (λ (w : List ℕ). length w) same.0, ap (λ (w : List ℕ). length w) same.1)

either_order : (c d : ℕ) (bytes a b x y : List ℕ) → d < c → Chunks c bytes a x → Chunks d bytes b y → length b ≤ length a
either_order c d bytes a b x y less p q =
    let f = longer d c bytes b a y x less q p in
    omega (arith, ap (λ (w : List ℕ). length w) f.4, length-append {A = ℕ} (b ++ f.0) f.2, length-append {A = ℕ} b f.0)

line_behind : (limit count : ℕ) (all given waiting body : List ℕ) → Chunks count all given waiting → ChunkedBody limit body all
    → length body ≤ length given + length waiting
line_behind limit count all given waiting body p is = by_order (le_or_lt count is.count)
  where
    by_order : (count ≤ is.count) ⊎ (is.count < count) → length body ≤ length given + length waiting
    by_order (inl le) = omega (arith, later_bytes count is.count all given body waiting is.here le p is.chunks)
    by_order (inr less) = omega (arith, either_order count is.count all given body waiting is.here less p is.chunks)

chunk_behind : (limit count : ℕ) (all had here body : List ℕ) (n size : ℕ) → Chunks count all had here → StartsWithChunkLine here n size → 0 < size
    → ChunkedBody limit body all → length body ≤ length had + length (drop n here)
chunk_behind limit count all had here body n size p line some is = by_order (le_or_lt is.count count)
  where
    by_order : (is.count ≤ count) ⊎ (count < is.count) → length body ≤ length had + length (drop n here)
    by_order (inl le) = by_equal (le_or_lt count is.count)
      where
        by_equal : (count ≤ is.count) ⊎ (is.count < count) → length body ≤ length had + length (drop n here)
        by_equal (inl same) =
            let e : is.count ≡ count = omega (arith, le, same) in
            let is_had = chunks_same count all had body here is.here p (subst (λ (k : ℕ). Chunks k all body is.here) e is.chunks) in
            omega (arith, ap (λ (w : List ℕ). length w) is_had.0)
        by_equal (inr less) = omega (arith, either_order count is.count all had body here is.here less p is.chunks)
    by_order (inr lt) =
        let f = longer count is.count all had body here is.here lt p is.chunks in
        let next : Chunks (suc count) all (had ++ f.0) f.1 = (had, here, f.0, p, f.3, refl) in
        let later = later_bytes (suc count) is.count all (had ++ f.0) body f.1 is.here (omega (arith, lt)) next is.chunks in
        omega (arith, later, one_bytes here f.0 f.1 n size f.3 line, length-append {A = ℕ} had f.0)

-- ---- where a reader stands

pub stands_front : (s : State) (f : Framing) (given seen waiting : List ℕ) (was : Bool) → Stands s f given seen was waiting → IsFront f given seen
stands_front (Left left) f given seen waiting was st = sized_front f (length given + left) left given waiting seen st.0 st.1 refl
stands_front Open f given seen waiting was st = open_front f given waiting seen st.0 st.1
stands_front Line f given seen waiting was st = record { front = λ limit more body ended b. by_body limit more body (subst (λ (g : Framing). FramedBody g limit body (seen ++ more) ended) st.0 b) }
  where
    by_body : (limit : ℕ) (more body : List ℕ) → ChunkedBody limit body (seen ++ more) → (tail : List ℕ) × (body ≡ given ++ tail)
    by_body limit more body b = chunks_front limit st.1.0 (seen ++ more) given (waiting ++ more) body (chunks-append st.1.0 seen more given waiting st.1.1) b
stands_front (Chunk left) f given seen waiting was st = chunk_front f left given seen waiting st.0 st.1
stands_front Over f given seen waiting was st = body_front f given seen was st

stands_behind : (s : State) (f : Framing) (given seen waiting : List ℕ) → is_over s ≡ false → Stands s f given seen false waiting → IsBehind f given seen (length waiting)
stands_behind (Left left) f given seen waiting o st =
    record { behind = λ limit more body ended b. by_body limit more body ended (subst (λ (g : Framing). FramedBody g limit body (seen ++ more) ended) st.0 b) }
  where
    by_body : (limit : ℕ) (more body : List ℕ) (ended : Bool) → FramedBody (Sized (length given + left)) limit body (seen ++ more) ended → length body ≤ length given + (length waiting + length more)
    by_body limit more body ended b = omega (
      arith,
      ap (λ (w : List ℕ). length w) b.body_is,
      length-take (length given + left) (seen ++ more),
      length-append {A = ℕ} seen more,
      ap (λ (w : List ℕ). length w) st.1,
      length-append {A = ℕ} given waiting,
    )
stands_behind Open f given seen waiting o st =
    record { behind = λ limit more body ended b. by_body limit more body ended (subst (λ (g : Framing). FramedBody g limit body (seen ++ more) ended) st.0 b) }
  where
    by_body : (limit : ℕ) (more body : List ℕ) (ended : Bool) → FramedBody ToEnd limit body (seen ++ more) ended → length body ≤ length given + (length waiting + length more)
    by_body limit more body ended b = omega (
      arith,
      ap (λ (w : List ℕ). length w) b.1,
      length-append {A = ℕ} seen more,
      ap (λ (w : List ℕ). length w) st.1,
      length-append {A = ℕ} given waiting,
    )
stands_behind Line f given seen waiting o st =
    record { behind = λ limit more body ended b. by_body limit more body (subst (λ (g : Framing). FramedBody g limit body (seen ++ more) ended) st.0 b) }
  where
    by_body : (limit : ℕ) (more body : List ℕ) → ChunkedBody limit body (seen ++ more) → length body ≤ length given + (length waiting + length more)
    by_body limit more body b = omega (
      arith,
      line_behind limit st.1.0 (seen ++ more) given (waiting ++ more) body (chunks-append st.1.0 seen more given waiting st.1.1) b,
      length-append {A = ℕ} waiting more,
    )
stands_behind (Chunk left) f given seen waiting o st =
    record { behind = λ limit more body ended b. by_body limit more body (subst (λ (g : Framing). FramedBody g limit body (seen ++ more) ended) st.0 b) }
  where
    c : InChunk left given seen waiting
    c = st.1

    by_body : (limit : ℕ) (more body : List ℕ) → ChunkedBody limit body (seen ++ more) → length body ≤ length given + (length waiting + length more)
    by_body limit more body b = omega (
      arith,
      chunk_behind limit c.count (seen ++ more) c.had (c.here ++ more) body c.n c.size (chunks-append c.count seen more c.had c.here c.chunks)
          (line-append c.here more c.n c.size c.line) c.some b,
      ap (λ (w : List ℕ). length w) (whole_content c.here c.part waiting more c.n c.size c.line c.content),
      length-append {A = ℕ} c.part (waiting ++ more),
      length-append {A = ℕ} waiting more,
      ap (λ (w : List ℕ). length w) c.given_is,
      length-append {A = ℕ} c.had c.part,
    )
stands_behind Over f given seen waiting o st = cc

pub stands_of : (r : Reader) (f : Framing) (given seen : List ℕ) (was : Bool) → r.failed ≡ None → Streams r f given seen was → Stands r.state f given seen was r.held.waiting
stands_of r f given seen was alive st =
    subst (λ (x : Option AnswerFault). MatchOption x (Stands r.state f given seen was r.held.waiting) (λ e. IfSome (outcome_of e) (λ o. IsNoBody f given o seen was))) alive st

-- ---- with more behind

pub front_more : (f : Framing) (given seen added : List ℕ) → IsFront f given seen → IsFront f given (seen ++ added)
front_more f given seen added is = record {
  front = λ limit more body ended b. is.front limit (added ++ more) body ended (subst (λ (w : List ℕ). FramedBody f limit body w ended) (append_assoc seen added more) b);
}

behind_more : (f : Framing) (given seen added : List ℕ) (most : ℕ) → IsBehind f given seen most → IsBehind f given (seen ++ added) (most + length added)
behind_more f given seen added most is = record {
  behind = λ limit more body ended b. omega (
    arith,
    is.behind limit (added ++ more) body ended (subst (λ (w : List ℕ). FramedBody f limit body w ended) (append_assoc seen added more) b),
    length-append {A = ℕ} added more,
  );
}

-- ---- the laws

pub waiting_lags : WaitingLags
waiting_lags a f given seen on st =
    stands_behind a.reader.state f given seen a.reader.held.waiting on.more (stands_of a.reader f given seen false on.alive st)

pub call_keeps : CallKeeps
call_keeps before after into old new result f given seen on st g =
    let stands = stands_of before.reader f given seen false on.alive st in (
      front_more f given seen g.added (stands_front before.reader.state f given seen before.reader.held.waiting false stands),
      behind_more f given seen g.added (length before.reader.held.waiting) (stands_behind before.reader.state f given seen before.reader.held.waiting on.more stands),
    )
