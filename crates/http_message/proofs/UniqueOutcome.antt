-- All bytes that came spell at most one outcome.
use Rattle.std.proofs.Common.{◌≡◌, ℕ, Bool, List, length, ap, sym, subst, ◌∙◌}
use Rattle.httparse.specs.Grammar.{ResponseHead}
use Rattle.http_message.specs.declared.framing.Framing.{Framing}
use Rattle.http_message.specs.declared.framing.Framing.TheVariants.{Wrong, Sized, Chunked, ToEnd}
use Rattle.http_message.specs.Outcome.{Outcome, answer}
use Rattle.http_message.specs.Heads.{most_interim}
use Rattle.http_message.specs.ChunkedBody.{NoNextChunk, LastChunk}
use Rattle.http_message.specs.Spelling.{FramedBody, NoFramedBody, answer_with, BehindHead, coded, bare, framed, broken, Spells, no_head, behind_head}
use Rattle.http_message.proofs.UniqueBlocks.{true_is_not_false}
use Rattle.http_message.proofs.UniqueHeads.{final_unique, final_or_none, none_unique}
use Rattle.http_message.proofs.UniqueSizes.{sized_why, one_sized, sized_or_none, open_why, one_open, open_or_none}
use Rattle.http_message.proofs.UniqueChunkParts.{next_unique, next_last_chunk}
use Rattle.http_message.proofs.UniqueChunks.{one_stop, stop_last, stop_none}

-- ---- bodies

framed_unique : (framing : Framing) (limit : ℕ) (a b rest : List ℕ) (ended : Bool) → FramedBody framing limit a rest ended → FramedBody framing limit b rest ended → a ≡ b
framed_unique Wrong limit a b rest ended x y = absurd x
framed_unique (Sized size) limit a b rest ended x y = x.body_is ∙ sym y.body_is
framed_unique Chunked limit a b rest ended x y =
    (one_stop limit x.count y.count rest a b x.here y.here x.chunks y.chunks x.within y.within
    (stop_last limit a x.here x.last) (stop_last limit b y.here y.last)).0
framed_unique ToEnd limit a b rest ended x y = x.1 ∙ sym y.1

framed_or_none : (framing : Framing) (limit : ℕ) (o : Outcome) (a rest : List ℕ) (ended : Bool) → FramedBody framing limit a rest ended → NoFramedBody framing limit o rest ended → ⊥
framed_or_none Wrong limit o a rest ended x y = x
framed_or_none (Sized size) limit o a rest ended x y = sized_or_none size limit o (length rest) ended (sized_why size limit o rest ended y) x.within x.whole
framed_or_none Chunked limit o a rest ended x y =
    let place = one_stop limit x.count y.count rest a y.had x.here y.here x.chunks y.chunks x.within y.within
    (stop_last limit a x.here x.last) (stop_none limit o y.had y.here ended y.why) in
    next_last_chunk limit (length y.had) o y.here ended (subst (λ (w : List ℕ). LastChunk w) place.1 x.last) y.why
framed_or_none ToEnd limit o a rest ended x y = open_or_none limit o (length rest) ended (open_why limit o rest ended y) x.0 x.2

none_framed : (framing : Framing) (limit : ℕ) (o p : Outcome) (rest : List ℕ) (ended : Bool) → NoFramedBody framing limit o rest ended → NoFramedBody framing limit p rest ended → o ≡ p
none_framed Wrong limit o p rest ended x y = x ∙ sym y
none_framed (Sized size) limit o p rest ended x y = one_sized size limit o p (length rest) ended (sized_why size limit o rest ended x) (sized_why size limit p rest ended y)
none_framed Chunked limit o p rest ended x y =
    let place = one_stop limit x.count y.count rest x.had y.had x.here y.here x.chunks y.chunks x.within y.within
    (stop_none limit o x.had x.here ended x.why) (stop_none limit p y.had y.here ended y.why) in
    next_unique limit (length x.had) o p x.here ended x.why
    (subst (λ (w : List ℕ). NoNextChunk limit (length x.had) p w ended) (sym place.1)
    (subst (λ (w : List ℕ). NoNextChunk limit (length w) p y.here ended) (sym place.0) y.why))
none_framed ToEnd limit o p rest ended x y = one_open limit o p (length rest) ended (open_why limit o rest ended x) (open_why limit p rest ended y)

-- ---- what stands behind a head

behind_unique : (get : Bool) (limit : ℕ) (h : ResponseHead) (rest : List ℕ) (ended : Bool) (o p : Outcome)
    → BehindHead get limit h rest ended o → BehindHead get limit h rest ended p → o ≡ p
behind_unique get limit h rest ended o p (coded a e) (coded b f) = e ∙ sym f
behind_unique get limit h rest ended o p (coded a e) (bare b c f) = absurd (true_is_not_false _ a b)
behind_unique get limit h rest ended o p (coded a e) (framed b c d g f) = absurd (true_is_not_false _ a b)
behind_unique get limit h rest ended o p (coded a e) (broken b c f) = absurd (true_is_not_false _ a b)
behind_unique get limit h rest ended o p (bare a x e) (coded b f) = absurd (true_is_not_false _ b a)
behind_unique get limit h rest ended o p (bare a x e) (bare b c f) = e ∙ sym f
behind_unique get limit h rest ended o p (bare a x e) (framed b c d g f) = absurd (true_is_not_false _ c x)
behind_unique get limit h rest ended o p (bare a x e) (broken b c f) = absurd (true_is_not_false _ c x)
behind_unique get limit h rest ended o p (framed a x y z e) (coded b f) = absurd (true_is_not_false _ b a)
behind_unique get limit h rest ended o p (framed a x y z e) (bare b c f) = absurd (true_is_not_false _ x c)
behind_unique get limit h rest ended o p (framed a x y z e) (framed b c d g f) =
    e ∙ ap (λ (w : List ℕ). answer (answer_with h w)) (framed_unique _ limit y d rest ended z g) ∙ sym f
behind_unique get limit h rest ended o p (framed a x y z e) (broken b c f) = absurd (framed_or_none _ limit p y rest ended z f)
behind_unique get limit h rest ended o p (broken a x e) (coded b f) = absurd (true_is_not_false _ b a)
behind_unique get limit h rest ended o p (broken a x e) (bare b c f) = absurd (true_is_not_false _ x c)
behind_unique get limit h rest ended o p (broken a x e) (framed b c d g f) = absurd (framed_or_none _ limit o d rest ended g e)
behind_unique get limit h rest ended o p (broken a x e) (broken b c f) = none_framed _ limit o p rest ended e f

-- ---- the whole

pub one_outcome : (get : Bool) (limit : ℕ) (o p : Outcome) (bytes : List ℕ) (ended : Bool) → Spells get limit o bytes ended → Spells get limit p bytes ended → o ≡ p
one_outcome get limit o p bytes ended (no_head x) (no_head y) = none_unique most_interim o p bytes ended x y
one_outcome get limit o p bytes ended (no_head x) (behind_head h r f y) = absurd (final_or_none most_interim o bytes ended h r f x)
one_outcome get limit o p bytes ended (behind_head h r f x) (no_head y) = absurd (final_or_none most_interim p bytes ended h r f y)
one_outcome get limit o p bytes ended (behind_head h r f x) (behind_head k q g y) =
    let same = final_unique most_interim bytes h k r q f g in
    behind_unique get limit h r ended o p x
    (subst (λ (w : List ℕ). BehindHead get limit h w ended p) (sym same.1)
    (subst (λ (m : ResponseHead). BehindHead get limit m q ended p) (sym same.0) y))
