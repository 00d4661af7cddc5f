-- A body that stands at the front of bytes stands there whatever comes behind, and so does what is at fault.
use Rattle.std.proofs.Common.{◌≡◌, ◌≢◌, ℕ, zero, suc, ◌+◌, ◌-◌, ◌≤◌, inl, inr, Bool, false, List, ◌++◌, length, length-append, length-drop, take, drop, refl, arith, ap, sym, ◌∙◌}
use Rattle.std.proofs.lemmas.Bool.{false≢true}
use Rattle.std.proofs.lemmas.List.{take-append-le, drop-append-le}
use Rattle.http_message.specs.declared.block.Ending.TheVariants.{EmptyLine, LineFeed}
use Rattle.http_message.specs.Outcome.{Outcome, answer, bad_answer, encoded, unfinished, head_too_long, headers_too_many, body_too_long}
use Rattle.http_message.specs.Bodies.{TooFew, SizedBody, NoSizedBody, NoBodyToEnd}
use Rattle.http_message.specs.Chunks.{StartsWithChunkLine, NoChunkLine, StartsWithData, NoData, StartsWithTrailer, NoTrailer, Overflows}
use Rattle.http_message.specs.ChunkedBody.{OneChunk, Chunks, LastChunk, ChunkedBody, NoContent, no_trailer, no_data, overflows, NoNextChunk, NoChunkedBody}
use Rattle.http_message.proofs.StableBlocks.{block-append, no_block-append}

-- too few bytes are told only at the end
few_untold : (count : ℕ) (o : Outcome) (a : List ℕ) → o ≢ unfinished → TooFew count o a false → ⊥
few_untold count (answer x) a told is = is
few_untold count bad_answer a told is = false≢true is.0
few_untold count encoded a told is = is
few_untold count unfinished a told is = told refl
few_untold count (head_too_long n) a told is = is
few_untold count (headers_too_many n) a told is = is
few_untold count (body_too_long n) a told is = is

-- ---- a stated length, and to the end

pub sized-append : (size limit : ℕ) (body a b : List ℕ) → SizedBody size limit body a → SizedBody size limit body (a ++ b)
sized-append size limit body a b is = record {
  within = is.within;
  whole = omega (arith, is.whole, length-append {A = ℕ} a b);
  body_is = is.body_is ∙ sym (take-append-le size a b is.whole);
}

pub no_sized-append : (size limit : ℕ) (o : Outcome) (a b : List ℕ) (ended : Bool) → o ≢ unfinished → NoSizedBody size limit o a false → NoSizedBody size limit o (a ++ b) ended
no_sized-append size limit (answer x) a b ended told is = absurd is
no_sized-append size limit bad_answer a b ended told is = absurd (false≢true is.0)
no_sized-append size limit encoded a b ended told is = absurd is
no_sized-append size limit unfinished a b ended told is = absurd (told refl)
no_sized-append size limit (head_too_long n) a b ended told is = absurd is
no_sized-append size limit (headers_too_many n) a b ended told is = absurd is
no_sized-append size limit (body_too_long n) a b ended told is = (is.0, is.1, omega (arith, is.2, length-append {A = ℕ} a b))

pub no_open-append : (limit : ℕ) (o : Outcome) (a b : List ℕ) (ended : Bool) → o ≢ unfinished → NoBodyToEnd limit o a false → NoBodyToEnd limit o (a ++ b) ended
no_open-append limit (answer x) a b ended told is = absurd is
no_open-append limit bad_answer a b ended told is = absurd is
no_open-append limit encoded a b ended told is = absurd is
no_open-append limit unfinished a b ended told is = absurd (told refl)
no_open-append limit (head_too_long n) a b ended told is = absurd is
no_open-append limit (headers_too_many n) a b ended told is = absurd is
no_open-append limit (body_too_long n) a b ended told is = (is.0, omega (arith, is.1, length-append {A = ℕ} a b))

-- ---- chunks

pub line-append : (a b : List ℕ) (n size : ℕ) → StartsWithChunkLine a n size → StartsWithChunkLine (a ++ b) n size
line-append a b n size is = record {
  block = block-append LineFeed a b n is.block;
  line = rw (take-append-le n a b is.block.within) is.line;
}

trailer-append : (a b : List ℕ) (m : ℕ) → StartsWithTrailer a m → StartsWithTrailer (a ++ b) m
trailer-append a b m is =
    let e : take m (a ++ b) ≡ take m a = take-append-le m a b is.block.within in
    record { block = block-append EmptyLine a b m is.block; lines = rw e is.lines; trailer = rw e is.trailer }

pub last-append : (a b : List ℕ) → LastChunk a → LastChunk (a ++ b)
last-append a b is =
    let e = drop-append-le is.n a b is.line.block.within in
    record { n = is.n; line = line-append a b is.n 0 is.line; m = is.m; trailer = rw e (trailer-append (drop is.n a) b is.m is.trailer) }

-- the two bytes behind a chunk
closing-append : (a b : List ℕ) (size : ℕ) → size + 2 ≤ length a → take 2 (drop size (a ++ b)) ≡ take 2 (drop size a)
closing-append a b size le =
    ap (λ (w : List ℕ). take 2 w) (drop-append-le size a b (omega arith)) ∙ take-append-le 2 (drop size a) b (omega (arith, length-drop size a))

data-append : (a b body : List ℕ) (size : ℕ) → StartsWithData a body size → StartsWithData (a ++ b) body size
data-append a b body size is = record {
  whole = omega (arith, is.whole, length-append {A = ℕ} a b);
  body_is = is.body_is ∙ sym (take-append-le size a b (omega (arith, is.whole)));
  closed = closing-append a b size is.whole ∙ is.closed;
}

one-append : (a b body rest : List ℕ) → OneChunk a body rest → OneChunk (a ++ b) body (rest ++ b)
one-append a b body rest is =
    let e = drop-append-le is.n a b is.line.block.within in
    record {
      n = is.n;
      size = is.size;
      line = line-append a b is.n is.size is.line;
      not_last = is.not_last;
      content = rw e (data-append (drop is.n a) b body is.size is.content);
      rest_is = ap (λ (w : List ℕ). w ++ b) is.rest_is ∙ sym (drop-append-le (is.size + 2) (drop is.n a) b is.content.whole) ∙ ap (λ (w : List ℕ). drop (is.size + 2) w) (sym e);
    }

pub chunks-append : (count : ℕ) (a b body rest : List ℕ) → Chunks count a body rest → Chunks count (a ++ b) body (rest ++ b)
chunks-append zero a b body rest is = (is.0, ap (λ (w : List ℕ). w ++ b) is.1)
chunks-append (suc count) a b body rest is =
    (is.0, is.1 ++ b, is.2, chunks-append count a b is.0 is.1 is.3, one-append is.1 b is.2 rest is.4, is.5)

pub chunked-append : (limit : ℕ) (body a b : List ℕ) → ChunkedBody limit body a → ChunkedBody limit body (a ++ b)
chunked-append limit body a b is = record {
  count = is.count;
  here = is.here ++ b;
  chunks = chunks-append is.count a b body is.here is.chunks;
  last = last-append is.here b is.last;
  within = is.within;
}

-- ---- what is at fault in chunks

no_line-append : (o : Outcome) (a b : List ℕ) (ended : Bool) → o ≢ unfinished → NoChunkLine o a false → NoChunkLine o (a ++ b) ended
no_line-append o a b ended told (inl none) = inl (no_block-append LineFeed o a b ended told none)
no_line-append o a b ended told (inr (n, is, wrong)) = inr (n, block-append LineFeed a b n is, rw (take-append-le n a b is.within) wrong)

no_trailer-append : (o : Outcome) (a b : List ℕ) (ended : Bool) → o ≢ unfinished → NoTrailer o a false → NoTrailer o (a ++ b) ended
no_trailer-append o a b ended told (inl none) = inl (no_block-append EmptyLine o a b ended told none)
no_trailer-append o a b ended told (inr (n, is, wrong)) = inr (n, block-append EmptyLine a b n is, rw (take-append-le n a b is.within) wrong)

no_data-append : (size : ℕ) (o : Outcome) (a b : List ℕ) (ended : Bool) → o ≢ unfinished → NoData size o a false → NoData size o (a ++ b) ended
no_data-append size o a b ended told (inl few) = absurd (few_untold (size + 2) o a told few)
no_data-append size o a b ended told (inr (whole, other, bad)) =
    inr (omega (arith, whole, length-append {A = ℕ} a b), λ e. other (sym (closing-append a b size whole) ∙ e), bad)

overflows-append : (room limit : ℕ) (o : Outcome) (a b : List ℕ) (ended : Bool) → o ≢ unfinished → Overflows room limit o a false → Overflows room limit o (a ++ b) ended
overflows-append room limit o a b ended told (inl few) = absurd (few_untold (room + 1) o a told few)
overflows-append room limit o a b ended told (inr (more, long)) = inr (omega (arith, more, length-append {A = ℕ} a b), long)

no_content-append : (limit had size : ℕ) (o : Outcome) (a b : List ℕ) (ended : Bool) → o ≢ unfinished → NoContent limit had size o a false → NoContent limit had size o (a ++ b) ended
no_content-append limit had size o a b ended told (no_trailer last none) = no_trailer last (no_trailer-append o a b ended told none)
no_content-append limit had size o a b ended told (no_data some fits none) = no_data some fits (no_data-append size o a b ended told none)
no_content-append limit had size o a b ended told (overflows some long none) = overflows some long (overflows-append (limit - had) limit o a b ended told none)

no_next-append : (limit had : ℕ) (o : Outcome) (a b : List ℕ) (ended : Bool) → o ≢ unfinished → NoNextChunk limit had o a false → NoNextChunk limit had o (a ++ b) ended
no_next-append limit had o a b ended told (inl none) = inl (no_line-append o a b ended told none)
no_next-append limit had o a b ended told (inr (n, size, line, none)) = inr (
  n,
  size,
  line-append a b n size line,
  rw (drop-append-le n a b line.block.within) (no_content-append limit had size o (drop n a) b ended told none),
)

pub no_chunked-append : (limit : ℕ) (o : Outcome) (a b : List ℕ) (ended : Bool) → o ≢ unfinished → NoChunkedBody limit o a false → NoChunkedBody limit o (a ++ b) ended
no_chunked-append limit o a b ended told is = record {
  count = is.count;
  had = is.had;
  here = is.here ++ b;
  chunks = chunks-append is.count a b is.had is.here is.chunks;
  within = is.within;
  why = no_next-append limit (length is.had) o is.here b ended told is.why;
}
