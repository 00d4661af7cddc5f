-- An outcome that bytes spell before their end stays, whatever comes behind.
use Rattle.std.proofs.Common.{◌≢◌, ℕ, Bool, false, List, ◌++◌}
use Rattle.std.proofs.lemmas.Bool.{false≢true}
use Rattle.httparse.specs.Grammar.{ResponseHead}
use Rattle.http_message.specs.declared.framing.Framing.{Framing}
use Rattle.http_message.specs.declared.framing.Framing.TheVariants.{Wrong, Sized, Chunked, ToEnd}
use Rattle.http_message.specs.Outcome.{Outcome, unfinished}
use Rattle.http_message.specs.Heads.{most_interim, headers_of}
use Rattle.http_message.specs.Framing.{framing_of}
use Rattle.http_message.specs.Spelling.{FramedBody, NoFramedBody, BehindHead, coded, bare, framed, broken, Spells, no_head, behind_head}
use Rattle.http_message.proofs.StableBlocks.{final-append, no_final-append}
use Rattle.http_message.proofs.StableBodies.{sized-append, no_sized-append, no_open-append, chunked-append, no_chunked-append}

framed-append : (framing : Framing) (limit : ℕ) (body a b : List ℕ) (ended : Bool) → FramedBody framing limit body a false → FramedBody framing limit body (a ++ b) ended
framed-append Wrong limit body a b ended is = absurd is
framed-append (Sized size) limit body a b ended is = sized-append size limit body a b is
framed-append Chunked limit body a b ended is = chunked-append limit body a b is
framed-append ToEnd limit body a b ended is = absurd (false≢true is.0)

no_framed-append : (framing : Framing) (limit : ℕ) (o : Outcome) (a b : List ℕ) (ended : Bool) → o ≢ unfinished → NoFramedBody framing limit o a false → NoFramedBody framing limit o (a ++ b) ended
no_framed-append Wrong limit o a b ended told is = is
no_framed-append (Sized size) limit o a b ended told is = no_sized-append size limit o a b ended told is
no_framed-append Chunked limit o a b ended told is = no_chunked-append limit o a b ended told is
no_framed-append ToEnd limit o a b ended told is = no_open-append limit o a b ended told is

behind-append : (get : Bool) (limit : ℕ) (h : ResponseHead) (a b : List ℕ) (ended : Bool) (o : Outcome) → o ≢ unfinished
    → BehindHead get limit h a false o → BehindHead get limit h (a ++ b) ended o
behind-append get limit h a b ended o told (coded e f) = coded e f
behind-append get limit h a b ended o told (bare e f g) = bare e f g
behind-append get limit h a b ended o told (framed e f body is g) = framed e f body (framed-append (framing_of (headers_of h)) limit body a b ended is) g
behind-append get limit h a b ended o told (broken e f is) = broken e f (no_framed-append (framing_of (headers_of h)) limit o a b ended told is)

pub outcome_stays : (get : Bool) (limit : ℕ) (o : Outcome) (bytes more : List ℕ) (ended : Bool) → o ≢ unfinished
    → Spells get limit o bytes false → Spells get limit o (bytes ++ more) ended
outcome_stays get limit o bytes more ended told (no_head is) = no_head (no_final-append most_interim o bytes more ended told is)
outcome_stays get limit o bytes more ended told (behind_head h rest is behind) =
    behind_head h (rest ++ more) (final-append most_interim bytes more h rest is) (behind-append get limit h rest more ended o told behind)
