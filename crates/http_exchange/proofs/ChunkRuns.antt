-- Runs of chunks: with more bytes behind them, and against each other.
use Rattle.std.proofs.Common.{◌≡◌, ℕ, suc, zero, ◌+◌, ◌-◌, ◌<◌, ◌≤◌, ◌⊎◌, inl, inr, List, [], ◌++◌, length, length-append, length-drop, take, drop, arith, ap, sym, subst, ◌∙◌, append_assoc}
use Rattle.std.proofs.lemmas.List.{take-append-le, drop-append-le, take_all}
use Rattle.http_message.specs.declared.block.Ending.TheVariants.{EmptyLine, LineFeed}
use Rattle.http_message.specs.Chunks.{StartsWithChunkLine, StartsWithData, StartsWithTrailer}
use Rattle.http_message.specs.ChunkedBody.{OneChunk, Chunks, LastChunk, ChunkedBody}
use Rattle.http_message.proofs.UniqueBlocks.{le_or_lt}
use Rattle.http_message.proofs.UniqueChunkParts.{line_unique}
use Rattle.skopeo_outside.proofs.WireLemmas.{append_none}
use Rattle.http_exchange.proofs.Ends.{block-append}
use Rattle.http_exchange.proofs.Rounds.{take_two}

-- what waits behind n bytes, and then more
pub behind : (n : ℕ) (a more y : List ℕ) → n ≤ length a → y ≡ drop n a → y ++ more ≡ drop n (a ++ more)
behind n a more y le e = ap (λ (w : List ℕ). w ++ more) e ∙ sym (drop-append-le n a more le)

pub line-append : (a b : List ℕ) (n size : ℕ) → StartsWithChunkLine a n size → StartsWithChunkLine (a ++ b) n size
line-append a b n size is = record {
  block = block-append LineFeed a b n is.block;
  line = rw (take-append-le n a b is.block.within) is.line;
}

trailer-append : (a b : List ℕ) (m : ℕ) → StartsWithTrailer a m → StartsWithTrailer (a ++ b) m
trailer-append a b m is =
    let e : take m (a ++ b) ≡ take m a = take-append-le m a b is.block.within in
    record { block = block-append EmptyLine a b m is.block; lines = rw e is.lines; trailer = rw e is.trailer }

pub last-append : (a b : List ℕ) → LastChunk a → LastChunk (a ++ b)
last-append a b is =
    let e = drop-append-le is.n a b is.line.block.within in
    record { n = is.n; line = line-append a b is.n 0 is.line; m = is.m; trailer = rw e (trailer-append (drop is.n a) b is.m is.trailer) }

data-append : (a b body : List ℕ) (size : ℕ) → StartsWithData a body size → StartsWithData (a ++ b) body size
data-append a b body size is =
    let le : size ≤ length a = omega (arith, is.whole) in
    let two : 2 ≤ length (drop size a) = omega (arith, is.whole, length-drop size a) in
    record {
      whole = omega (arith, is.whole, length-append {A = ℕ} a b);
      body_is = is.body_is ∙ sym (take-append-le size a b le);
      closed = ap (λ (w : List ℕ). take 2 w) (drop-append-le size a b le) ∙ take-append-le 2 (drop size a) b two ∙ is.closed;
    }

one-append : (a b body rest : List ℕ) → OneChunk a body rest → OneChunk (a ++ b) body (rest ++ b)
one-append a b body rest is =
    let e = drop-append-le is.n a b is.line.block.within in
    record {
      n = is.n;
      size = is.size;
      line = line-append a b is.n is.size is.line;
      not_last = is.not_last;
      content = rw e (data-append (drop is.n a) b body is.size is.content);
      rest_is = rw e (behind (is.size + 2) (drop is.n a) b rest is.content.whole is.rest_is);
    }

pub chunks-append : (count : ℕ) (a b body rest : List ℕ) → Chunks count a body rest → Chunks count (a ++ b) body (rest ++ b)
chunks-append zero a b body rest is = (is.0, ap (λ (w : List ℕ). w ++ b) is.1)
chunks-append (suc count) a b body rest is =
    (is.0, is.1 ++ b, is.2, chunks-append count a b is.0 is.1 is.3, one-append is.1 b is.2 rest is.4, is.5)

-- ---- two runs at the front of the same bytes

one_or_last : (bytes body rest : List ℕ) → OneChunk bytes body rest → LastChunk bytes → ⊥
one_or_last bytes body rest x y = omega (arith, x.not_last, (line_unique bytes x.n y.n x.size 0 x.line y.line).1)

one_unique : (bytes a b r q : List ℕ) → OneChunk bytes a r → OneChunk bytes b q → (a ≡ b) × (r ≡ q)
one_unique bytes a b r q x y =
    let same = line_unique bytes x.n y.n x.size y.size x.line y.line in (
      x.content.body_is ∙ ap (λ (k : ℕ). take x.size (drop k bytes)) same.0 ∙ ap (λ (s : ℕ). take s (drop y.n bytes)) same.1 ∙ sym y.content.body_is,
      x.rest_is ∙ ap (λ (k : ℕ). drop (x.size + 2) (drop k bytes)) same.0 ∙ ap (λ (s : ℕ). drop (s + 2) (drop y.n bytes)) same.1 ∙ sym y.rest_is,
    )

pub chunks_same : (c : ℕ) (bytes a b x y : List ℕ) → Chunks c bytes a x → Chunks c bytes b y → (a ≡ b) × (x ≡ y)
chunks_same zero bytes a b x y p q = (p.0 ∙ sym q.0, p.1 ∙ sym q.1)
chunks_same (suc c) bytes a b x y p q =
    let same = chunks_same c bytes p.0 q.0 p.1 q.1 p.3 q.3 in
    let last = one_unique p.1 p.2 q.2 x y p.4 (subst (λ (w : List ℕ). OneChunk w q.2 y) (sym same.1) q.4) in (
      p.5 ∙ ap (λ (w : List ℕ). w ++ p.2) same.0 ∙ ap (λ (w : List ℕ). q.0 ++ w) last.0 ∙ sym q.5,
      last.1,
    )

-- where the shorter of two runs ends, the longer has one more chunk, and goes on from it
pub longer : (c d : ℕ) (bytes a b x y : List ℕ) → c < d → Chunks c bytes a x → Chunks d bytes b y
    → (last : List ℕ) × (rest : List ℕ) × (tail : List ℕ) × OneChunk x last rest × (b ≡ (a ++ last) ++ tail)
longer c zero bytes a b x y less p q = absurd (omega arith)
longer c (suc d) bytes a b x y less p q = by_order (le_or_lt d c) (λ lt. longer c d bytes a q.0 x q.1 lt p q.3)
  where
    by_order : (d ≤ c) ⊎ (c < d)
        → (c < d → (last : List ℕ) × (rest : List ℕ) × (tail : List ℕ) × OneChunk x last rest × (q.0 ≡ (a ++ last) ++ tail))
        → (last : List ℕ) × (rest : List ℕ) × (tail : List ℕ) × OneChunk x last rest × (b ≡ (a ++ last) ++ tail)
    by_order (inl le) earlier =
        let e : d ≡ c = omega arith in
        let same = chunks_same c bytes a q.0 x q.1 p (subst (λ (k : ℕ). Chunks k bytes q.0 q.1) e q.3) in (
          q.2,
          y,
          [],
          subst (λ (w : List ℕ). OneChunk w q.2 y) (sym same.1) q.4,
          q.5 ∙ ap (λ (w : List ℕ). w ++ q.2) (sym same.0) ∙ sym (append_none (a ++ q.2)),
        )
    by_order (inr lt) earlier =
        let f = earlier lt in (
          f.0,
          f.1,
          f.2 ++ q.2,
          f.3,
          q.5 ∙ ap (λ (w : List ℕ). w ++ q.2) f.4 ∙ append_assoc (a ++ f.0) f.2 q.2,
        )

-- a whole body has no fewer chunks than stand at its front
no_fewer : (c d : ℕ) (bytes a b x y : List ℕ) → Chunks c bytes a x → Chunks d bytes b y → LastChunk y → c ≤ d
no_fewer c d bytes a b x y p q last = by_order (le_or_lt c d)
  where
    by_order : (c ≤ d) ⊎ (d < c) → c ≤ d
    by_order (inl le) = le
    by_order (inr lt) = let f = longer d c bytes b a y x lt q p in absurd (one_or_last y f.0 f.1 f.3 last)

-- a whole body begins with the chunks at its front
pub chunks_front : (limit count : ℕ) (all had here body : List ℕ) → Chunks count all had here → ChunkedBody limit body all
    → (tail : List ℕ) × (body ≡ had ++ tail)
chunks_front limit count all had here body p is = by_order (le_or_lt is.count count)
  where
    by_order : (is.count ≤ count) ⊎ (count < is.count) → (tail : List ℕ) × (body ≡ had ++ tail)
    by_order (inl le) =
        let e : is.count ≡ count = omega (arith, no_fewer count is.count all had body here is.here p is.chunks is.last) in
        let same = chunks_same count all had body here is.here p (subst (λ (k : ℕ). Chunks k all body is.here) e is.chunks) in
        ([], sym same.0 ∙ sym (append_none had))
    by_order (inr lt) =
        let f = longer count is.count all had body here is.here lt p is.chunks in
        (f.0 ++ f.2, f.4 ∙ append_assoc had f.0 f.2)

-- and is no more than these where the last chunk follows
pub chunks_whole : (limit count : ℕ) (all had here body : List ℕ) → Chunks count all had here → LastChunk here → ChunkedBody limit body all
    → body ≡ had
chunks_whole limit count all had here body p last is =
    let e : is.count ≡ count = omega (arith, no_fewer count is.count all had body here is.here p is.chunks is.last, no_fewer is.count count all body had is.here here is.chunks p last) in
    sym (chunks_same count all had body here is.here p (subst (λ (k : ℕ). Chunks k all body is.here) e is.chunks)).0

pub take_over : (m : ℕ) (a b : List ℕ) → length a ≤ m → take m (a ++ b) ≡ a ++ take (m - length a) b
take_over m a b le = take_two m a b ∙ ap (λ (w : List ℕ). w ++ take (m - length a) b) (take_all m a le)

-- where a chunk is begun behind these, the body begins with each part of its bytes
pub part_front : (limit count : ℕ) (all had here body : List ℕ) (n size : ℕ) (part rest : List ℕ) → Chunks count all had here
    → StartsWithChunkLine here n size → 0 < size → drop n here ≡ part ++ rest → length part ≤ size → ChunkedBody limit body all
    → (tail : List ℕ) × (body ≡ (had ++ part) ++ tail)
part_front limit count all had here body n size part rest p line some content fits is = by_order (le_or_lt is.count count)
  where
    by_order : (is.count ≤ count) ⊎ (count < is.count) → (tail : List ℕ) × (body ≡ (had ++ part) ++ tail)
    by_order (inl le) =
        let e : is.count ≡ count = omega (arith, no_fewer count is.count all had body here is.here p is.chunks is.last) in
        let same = chunks_same count all had body here is.here p (subst (λ (k : ℕ). Chunks k all body is.here) e is.chunks) in
        let last = subst (λ (w : List ℕ). LastChunk w) (sym same.1) is.last in
        absurd (omega (arith, some, (line_unique here n last.n size 0 line last.line).1))
    by_order (inr lt) =
        let f = longer count is.count all had body here is.here lt p is.chunks in
        let one = f.3 in
        let same = line_unique here n one.n size one.size line one.line in
        let bytes : f.0 ≡ take size (part ++ rest) = one.content.body_is ∙ ap (λ (k : ℕ). take one.size (drop k here)) (sym same.0)
        ∙ ap (λ (s : ℕ). take s (drop n here)) (sym same.1) ∙ ap (λ (w : List ℕ). take size w) content in
        let cut : take size (part ++ rest) ≡ part ++ take (size - length part) rest = take_over size part rest fits in (
          take (size - length part) rest ++ f.2,
          f.4 ∙ ap (λ (w : List ℕ). (had ++ w) ++ f.2) (bytes ∙ cut)
              ∙ ap (λ (w : List ℕ). w ++ f.2) (sym (append_assoc had part (take (size - length part) rest)))
              ∙ append_assoc (had ++ part) (take (size - length part) rest) f.2,
        )
