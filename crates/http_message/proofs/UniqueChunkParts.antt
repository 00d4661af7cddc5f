-- The parts of a body in chunks: at most one stands at the front, and else at most one fault.
use Rattle.std.proofs.Common.{◌≡◌, ℕ, ◌+◌, ◌-◌, ◌<◌, ◌≤◌, inl, inr, Bool, List, [], length, length-take, take, drop, refl, arith, ap, sym, subst, ◌∙◌}
use Rattle.httparse.specs.Grammar.{ChunkLine, ReadsChunkLine, chunk_size}
use Rattle.httparse.proofs.ChunkLemmas.{chunk_line_unique}
use Rattle.http_message.specs.declared.block.Ending.TheVariants.{EmptyLine, LineFeed}
use Rattle.http_message.specs.Outcome.{Outcome, answer, bad_answer, encoded, unfinished, head_too_long, headers_too_many, body_too_long}
use Rattle.http_message.specs.Chunks.{IsChunkLineOf, StartsWithChunkLine, NoChunkLine, IsTrailer, IsWrongTrailer, trailer_lines, StartsWithTrailer, NoTrailer, StartsWithData, NoData, Overflows}
use Rattle.http_message.specs.ChunkedBody.{OneChunk, LastChunk, NoContent, no_trailer, no_data, overflows, NoNextChunk}
use Rattle.http_message.proofs.UniqueBlocks.{block_unique, no_block, no_block_unique}
use Rattle.http_message.proofs.UniqueSizes.{few_why, one_few}

pub line_unique : (bytes : List ℕ) (n m s t : ℕ) → StartsWithChunkLine bytes n s → StartsWithChunkLine bytes m t → (n ≡ m) × (s ≡ t)
line_unique bytes n m s t x y =
    let same = block_unique LineFeed bytes n m x.block y.block in
    let other = subst (λ (k : ℕ). IsChunkLineOf (take k bytes) t) (sym same) y.line in (
      same,
      x.line.2 ∙ ap (λ (l : ChunkLine). chunk_size l) (chunk_line_unique (take n bytes) x.line.0 other.0 [] [] x.line.1 other.1).0 ∙ sym other.2,
    )

pub no_line_line : (o : Outcome) (bytes : List ℕ) (ended : Bool) (n size : ℕ) → NoChunkLine o bytes ended → StartsWithChunkLine bytes n size → ⊥
no_line_line o bytes ended n size (inl none) is = no_block LineFeed o bytes ended n none is.block
no_line_line o bytes ended n size (inr w) is =
    let same = block_unique LineFeed bytes w.0 n w.1 is.block in
    w.2.1 is.line.0 (subst (λ (k : ℕ). ReadsChunkLine (take k bytes) is.line.0 []) (sym same) is.line.1)

no_line_unique : (o p : Outcome) (bytes : List ℕ) (ended : Bool) → NoChunkLine o bytes ended → NoChunkLine p bytes ended → o ≡ p
no_line_unique o p bytes ended (inl x) (inl y) = no_block_unique LineFeed o p bytes ended x y
no_line_unique o p bytes ended (inl x) (inr y) = absurd (no_block LineFeed o bytes ended y.0 x y.1)
no_line_unique o p bytes ended (inr x) (inl y) = absurd (no_block LineFeed p bytes ended x.0 y x.1)
no_line_unique o p bytes ended (inr x) (inr y) = x.2.0 ∙ sym y.2.0

pub data WhyTrailer (o : Outcome) (lines : ℕ) (block : List ℕ) : Type 0 where
  no_reading : o ≡ bad_answer → lines ≤ 100 → (IsTrailer block → ⊥) → WhyTrailer o lines block
  many_lines : o ≡ headers_too_many lines → 100 < lines → WhyTrailer o lines block

trailer_why : (o : Outcome) (block : List ℕ) → IsWrongTrailer o block → WhyTrailer o (trailer_lines block) block
trailer_why (headers_too_many k) block w = many_lines (ap headers_too_many w.1) w.0
trailer_why bad_answer block w = no_reading refl w.0 w.1
trailer_why unfinished block w = absurd w
trailer_why encoded block w = absurd w
trailer_why (answer r) block w = absurd w
trailer_why (head_too_long k) block w = absurd w
trailer_why (body_too_long k) block w = absurd w

one_trailer : (o p : Outcome) (lines : ℕ) (block : List ℕ) → WhyTrailer o lines block → WhyTrailer p lines block → o ≡ p
one_trailer o p lines block (no_reading a b c) (no_reading x y z) = a ∙ sym x
one_trailer o p lines block (no_reading a b c) (many_lines x y) = absurd (omega arith)
one_trailer o p lines block (many_lines a b) (no_reading x y z) = absurd (omega arith)
one_trailer o p lines block (many_lines a b) (many_lines x y) = a ∙ sym x

wrong_or_trailer : (o : Outcome) (lines : ℕ) (block : List ℕ) → WhyTrailer o lines block → lines ≤ 100 → IsTrailer block → ⊥
wrong_or_trailer o lines block (no_reading a b c) l t = c t
wrong_or_trailer o lines block (many_lines a b) l t = omega arith

no_trailer_trailer : (o : Outcome) (bytes : List ℕ) (ended : Bool) (n : ℕ) → NoTrailer o bytes ended → StartsWithTrailer bytes n → ⊥
no_trailer_trailer o bytes ended n (inl none) is = no_block EmptyLine o bytes ended n none is.block
no_trailer_trailer o bytes ended n (inr w) is =
    let same = block_unique EmptyLine bytes n w.0 is.block w.1 in
    wrong_or_trailer o _ (take n bytes) (trailer_why o (take n bytes) (subst (λ (k : ℕ). IsWrongTrailer o (take k bytes)) (sym same) w.2)) is.lines is.trailer

no_trailer_unique : (o p : Outcome) (bytes : List ℕ) (ended : Bool) → NoTrailer o bytes ended → NoTrailer p bytes ended → o ≡ p
no_trailer_unique o p bytes ended (inl x) (inl y) = no_block_unique EmptyLine o p bytes ended x y
no_trailer_unique o p bytes ended (inl x) (inr y) = absurd (no_block EmptyLine o bytes ended y.0 x y.1)
no_trailer_unique o p bytes ended (inr x) (inl y) = absurd (no_block EmptyLine p bytes ended x.0 y x.1)
no_trailer_unique o p bytes ended (inr x) (inr y) =
    let same = block_unique EmptyLine bytes x.0 y.0 x.1 y.1 in
    one_trailer o p _ (take x.0 bytes) (trailer_why o (take x.0 bytes) x.2)
    (trailer_why p (take x.0 bytes) (subst (λ (k : ℕ). IsWrongTrailer p (take k bytes)) (sym same) y.2))

no_data_unique : (size : ℕ) (o p : Outcome) (bytes : List ℕ) (ended : Bool) → NoData size o bytes ended → NoData size p bytes ended → o ≡ p
no_data_unique size o p bytes ended (inl x) (inl y) = one_few o p ended (few_why (size + 2) o bytes ended x).0 (few_why (size + 2) p bytes ended y).0
no_data_unique size o p bytes ended (inl x) (inr y) = absurd (omega (arith, (few_why (size + 2) o bytes ended x).1, y.0))
no_data_unique size o p bytes ended (inr x) (inl y) = absurd (omega (arith, (few_why (size + 2) p bytes ended y).1, x.0))
no_data_unique size o p bytes ended (inr x) (inr y) = x.2 ∙ sym y.2

no_data_data : (size : ℕ) (o : Outcome) (bytes body : List ℕ) (ended : Bool) → NoData size o bytes ended → StartsWithData bytes body size → ⊥
no_data_data size o bytes body ended (inl x) is = omega (arith, (few_why (size + 2) o bytes ended x).1, is.whole)
no_data_data size o bytes body ended (inr x) is = x.1 is.closed

overflows_unique : (room limit : ℕ) (o p : Outcome) (bytes : List ℕ) (ended : Bool) → Overflows room limit o bytes ended → Overflows room limit p bytes ended → o ≡ p
overflows_unique room limit o p bytes ended (inl x) (inl y) = one_few o p ended (few_why (room + 1) o bytes ended x).0 (few_why (room + 1) p bytes ended y).0
overflows_unique room limit o p bytes ended (inl x) (inr y) = absurd (omega (arith, (few_why (room + 1) o bytes ended x).1, y.0))
overflows_unique room limit o p bytes ended (inr x) (inl y) = absurd (omega (arith, (few_why (room + 1) p bytes ended y).1, x.0))
overflows_unique room limit o p bytes ended (inr x) (inr y) = x.1 ∙ sym y.1

content_unique : (limit had size : ℕ) (o p : Outcome) (bytes : List ℕ) (ended : Bool) → NoContent limit had size o bytes ended → NoContent limit had size p bytes ended → o ≡ p
content_unique limit had size o p bytes ended (no_trailer a b) (no_trailer x y) = no_trailer_unique o p bytes ended b y
content_unique limit had size o p bytes ended (no_trailer a b) (no_data x y z) = absurd (omega arith)
content_unique limit had size o p bytes ended (no_trailer a b) (overflows x y z) = absurd (omega arith)
content_unique limit had size o p bytes ended (no_data a b c) (no_trailer x y) = absurd (omega arith)
content_unique limit had size o p bytes ended (no_data a b c) (no_data x y z) = no_data_unique size o p bytes ended c z
content_unique limit had size o p bytes ended (no_data a b c) (overflows x y z) = absurd (omega arith)
content_unique limit had size o p bytes ended (overflows a b c) (no_trailer x y) = absurd (omega arith)
content_unique limit had size o p bytes ended (overflows a b c) (no_data x y z) = absurd (omega arith)
content_unique limit had size o p bytes ended (overflows a b c) (overflows x y z) = overflows_unique (limit - had) limit o p bytes ended c z

pub next_unique : (limit had : ℕ) (o p : Outcome) (bytes : List ℕ) (ended : Bool) → NoNextChunk limit had o bytes ended → NoNextChunk limit had p bytes ended → o ≡ p
next_unique limit had o p bytes ended (inl x) (inl y) = no_line_unique o p bytes ended x y
next_unique limit had o p bytes ended (inl x) (inr y) = absurd (no_line_line o bytes ended y.0 y.1 x y.2)
next_unique limit had o p bytes ended (inr x) (inl y) = absurd (no_line_line p bytes ended x.0 x.1 y x.2)
next_unique limit had o p bytes ended (inr x) (inr y) =
    let same = line_unique bytes x.0 y.0 x.1 y.1 x.2 y.2 in
    content_unique limit had x.1 o p (drop x.0 bytes) ended x.3
    (subst (λ (k : ℕ). NoContent limit had x.1 p (drop k bytes) ended) (sym same.0)
    (subst (λ (s : ℕ). NoContent limit had s p (drop y.0 bytes) ended) (sym same.1) y.3))

-- a chunk that is not the last, within the limit, is no fault
content_chunk : (limit had size : ℕ) (o : Outcome) (bytes body : List ℕ) (ended : Bool) → 0 < size → had + size ≤ limit → StartsWithData bytes body size
    → NoContent limit had size o bytes ended → ⊥
content_chunk limit had size o bytes body ended some fits is (no_trailer x y) = omega arith
content_chunk limit had size o bytes body ended some fits is (no_data x y z) = no_data_data size o bytes body ended z is
content_chunk limit had size o bytes body ended some fits is (overflows x y z) = omega arith

pub next_chunk : (limit had : ℕ) (o : Outcome) (bytes body rest : List ℕ) (ended : Bool) → had + length body ≤ limit → OneChunk bytes body rest
    → NoNextChunk limit had o bytes ended → ⊥
next_chunk limit had o bytes body rest ended fits is (inl x) = no_line_line o bytes ended is.n is.size x is.line
next_chunk limit had o bytes body rest ended fits is (inr x) =
    let same = line_unique bytes x.0 is.n x.1 is.size x.2 is.line in
    let len : length body ≡ is.size = ap (λ (w : List ℕ). length w) is.content.body_is ∙ omega (arith, length-take is.size (drop is.n bytes), is.content.whole) in
    content_chunk limit had is.size o (drop is.n bytes) body ended is.not_last (omega (arith, fits, len)) is.content
    (subst (λ (k : ℕ). NoContent limit had is.size o (drop k bytes) ended) same.0
    (subst (λ (s : ℕ). NoContent limit had s o (drop x.0 bytes) ended) same.1 x.3))

content_last : (limit had size n : ℕ) (o : Outcome) (bytes : List ℕ) (ended : Bool) → size ≡ 0 → StartsWithTrailer bytes n
    → NoContent limit had size o bytes ended → ⊥
content_last limit had size n o bytes ended none is (no_trailer x y) = no_trailer_trailer o bytes ended n y is
content_last limit had size n o bytes ended none is (no_data x y z) = omega arith
content_last limit had size n o bytes ended none is (overflows x y z) = omega arith

pub next_last_chunk : (limit had : ℕ) (o : Outcome) (bytes : List ℕ) (ended : Bool) → LastChunk bytes → NoNextChunk limit had o bytes ended → ⊥
next_last_chunk limit had o bytes ended is (inl x) = no_line_line o bytes ended is.n 0 x is.line
next_last_chunk limit had o bytes ended is (inr x) =
    let same = line_unique bytes x.0 is.n x.1 0 x.2 is.line in
    content_last limit had x.1 is.m o (drop is.n bytes) ended same.1 is.trailer
    (subst (λ (k : ℕ). NoContent limit had x.1 o (drop k bytes) ended) same.0 x.3)
