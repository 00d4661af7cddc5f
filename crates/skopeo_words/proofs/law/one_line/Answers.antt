use Rattle.std.proofs.Common.{subst}
use Rattle.skopeo_words.specs.Line.{IsLine}
use Rattle.skopeo_words.proofs.LineLaw.{line_is, line_once}
use Rattle.skopeo_words.proofs.law.one_line.Goals as goal

pub returns : goal.returns
returns c = record { line = λ words parts. (line_once parts words, λ same. subst (λ ps. IsLine ps 1 words) same (line_is words)) }
