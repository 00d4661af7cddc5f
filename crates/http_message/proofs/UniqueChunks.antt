-- Runs of chunks: two that stop are one.
use Rattle.std.proofs.Common.{◌≡◌, ℕ, suc, zero, ◌+◌, ◌<◌, ◌≤◌, ◌⊎◌, inl, inr, Bool, List, ◌++◌, length, length-append, take, drop, arith, ap, sym, subst, ◌∙◌}
use Rattle.http_message.specs.Outcome.{Outcome}
use Rattle.http_message.specs.ChunkedBody.{OneChunk, Chunks, LastChunk, NoNextChunk}
use Rattle.http_message.proofs.UniqueBlocks.{le_or_lt}
use Rattle.http_message.proofs.UniqueChunkParts.{line_unique, next_chunk}

one_or_last : (bytes body rest : List ℕ) → OneChunk bytes body rest → LastChunk bytes → ⊥
one_or_last bytes body rest x y = omega (arith, x.not_last, (line_unique bytes x.n y.n x.size 0 x.line y.line).1)

one_unique : (bytes a b r q : List ℕ) → OneChunk bytes a r → OneChunk bytes b q → (a ≡ b) × (r ≡ q)
one_unique bytes a b r q x y =
    let same = line_unique bytes x.n y.n x.size y.size x.line y.line in (
      x.content.body_is ∙ ap (λ (k : ℕ). take x.size (drop k bytes)) same.0 ∙ ap (λ (s : ℕ). take s (drop y.n bytes)) same.1 ∙ sym y.content.body_is,
      x.rest_is ∙ ap (λ (k : ℕ). drop (x.size + 2) (drop k bytes)) same.0 ∙ ap (λ (s : ℕ). drop (s + 2) (drop y.n bytes)) same.1 ∙ sym y.rest_is,
    )

chunks_same : (c : ℕ) (bytes a b x y : List ℕ) → Chunks c bytes a x → Chunks c bytes b y → (a ≡ b) × (x ≡ y)
chunks_same zero bytes a b x y p q = (p.0 ∙ sym q.0, p.1 ∙ sym q.1)
chunks_same (suc c) bytes a b x y p q =
    let same = chunks_same c bytes p.0 q.0 p.1 q.1 p.3 q.3 in
    let last = one_unique p.1 p.2 q.2 x y p.4 (subst (λ (w : List ℕ). OneChunk w q.2 y) (sym same.1) q.4) in (
      p.5 ∙ ap (λ (w : List ℕ). w ++ p.2) same.0 ∙ ap (λ (w : List ℕ). q.0 ++ w) last.0 ∙ sym q.5,
      last.1,
    )

-- where the shorter of two runs of chunks ends, the longer has one more
chunks_less : (c d : ℕ) (bytes a b x y : List ℕ) → c < d → Chunks c bytes a x → Chunks d bytes b y
    → (last : List ℕ) × (rest : List ℕ) × OneChunk x last rest × (length a + length last ≤ length b)
chunks_less c zero bytes a b x y less p q = absurd (omega arith)
chunks_less c (suc d) bytes a b x y less p q = by_order (le_or_lt d c) (λ lt. chunks_less c d bytes a q.0 x q.1 lt p q.3)
  where
    whole : length b ≡ length q.0 + length q.2
    whole = ap (λ (w : List ℕ). length w) q.5 ∙ length-append {A = ℕ} q.0 q.2

    by_order : (d ≤ c) ⊎ (c < d)
        → (c < d → (last : List ℕ) × (rest : List ℕ) × OneChunk x last rest × (length a + length last ≤ length q.0))
        → (last : List ℕ) × (rest : List ℕ) × OneChunk x last rest × (length a + length last ≤ length b)
    by_order (inl le) earlier =
        let e : d ≡ c = omega arith in
        let same = chunks_same c bytes a q.0 x q.1 p (subst (λ (k : ℕ). Chunks k bytes q.0 q.1) e q.3) in (
          q.2,
          y,
          subst (λ (w : List ℕ). OneChunk w q.2 y) (sym same.1) q.4,
          omega (arith, whole, ap (λ (w : List ℕ). length w) same.0),
        )
    by_order (inr lt) earlier =
        let f = earlier lt in
        (f.0, f.1, f.2, omega (arith, f.3, whole))

-- where a run of chunks stops, with what it had within the limit, no other goes on
pub Stop : ℕ → List ℕ → List ℕ → Type 0
Stop limit had here = (last rest : List ℕ) → OneChunk here last rest → length had + length last ≤ limit → ⊥

not_less : (limit c d : ℕ) (bytes a b x y : List ℕ) → Chunks c bytes a x → Chunks d bytes b y → length b ≤ limit → Stop limit a x → d ≤ c
unfolding Stop
not_less limit c d bytes a b x y p q fits stop = by_order (le_or_lt d c)
  where
    by_order : (d ≤ c) ⊎ (c < d) → d ≤ c
    by_order (inl h) = h
    by_order (inr h) = let f = chunks_less c d bytes a b x y h p q in absurd (stop f.0 f.1 f.2 (omega (arith, f.3, fits)))

pub one_stop : (limit c d : ℕ) (bytes a b x y : List ℕ) → Chunks c bytes a x → Chunks d bytes b y → length a ≤ limit → length b ≤ limit
    → Stop limit a x → Stop limit b y → (a ≡ b) × (x ≡ y)
one_stop limit c d bytes a b x y p q fits_a fits_b stop_a stop_b =
    let same : c ≡ d = omega (arith, not_less limit c d bytes a b x y p q fits_b stop_a, not_less limit d c bytes b a y x q p fits_a stop_b) in
    chunks_same d bytes a b x y (subst (λ (k : ℕ). Chunks k bytes a x) same p) q

pub stop_last : (limit : ℕ) (had here : List ℕ) → LastChunk here → Stop limit had here
unfolding Stop
stop_last limit had here is last other chunk fits = one_or_last here last other chunk is

pub stop_none : (limit : ℕ) (o : Outcome) (had here : List ℕ) (ended : Bool) → NoNextChunk limit (length had) o here ended → Stop limit had here
unfolding Stop
stop_none limit o had here ended none last rest chunk fits = next_chunk limit (length had) o here last rest ended fits chunk none
