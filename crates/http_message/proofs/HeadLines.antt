-- A head has a line feed for each of its lines.
use Rattle.std.proofs.Common.{◌≡◌, ℕ, ◌+◌, ◌≤◌, List, [], ◌∷◌, ◌++◌, length, refl, arith, ap, sym, subst, ◌∙◌}
use Rattle.std.specs.Prelude.{count_by, ◌==◌}
use Rattle.std.specs.List.{flat_map}
use Rattle.std.proofs.lemmas.List.Sums.{sum_by-append}
use Rattle.httparse.specs.Grammar.{LineEnd, crlf, lf, print_end, print_blank, print_version, print_reason, Field, print_field, print_section, ResponseHead, ReadsResponse, ReadsSection}
use Rattle.httparse.proofs.GrammarLemmas.{print_response-append}
use Rattle.skopeo_outside.proofs.WireLemmas.{append_none}
use Rattle.http_message.specs.Blocks.{line_feed}
use Rattle.http_message.specs.Heads.{header_lines}
use Rattle.http_message.specs.Chunks.{trailer_lines}

abbrev feeds : List ℕ → ℕ
feeds xs = count_by (λ b. b == line_feed) xs

feeds-append : (xs ys : List ℕ) → feeds (xs ++ ys) ≡ feeds xs + feeds ys
feeds-append xs ys = sum_by-append _ xs ys

feeds_end : (e : LineEnd) → feeds (print_end e) ≡ 1
feeds_end crlf = refl
feeds_end lf = refl

feeds_field : (f : Field) → 1 ≤ feeds (print_field f)
feeds_field f = omega (arith, feeds-append (f.name ++ 58 ∷ f.raw) (print_end f.end), feeds_end f.end)

feeds_fields : (fs : List Field) → length fs ≤ feeds (flat_map print_field fs)
feeds_fields [] = omega arith
feeds_fields (f ∷ fs) = omega (arith, feeds-append (print_field f) (flat_map print_field fs), feeds_field f, feeds_fields fs)

feeds_section : (fs : List Field) (last : LineEnd) → length fs + 1 ≤ feeds (print_section fs last)
feeds_section fs last = omega (arith, feeds-append (flat_map print_field fs) (print_end last), feeds_fields fs, feeds_end last)

feeds_tail : (a b c d e f : List ℕ) → feeds e + feeds f ≤ feeds (a ++ (b ++ 32 ∷ (c ++ (d ++ (e ++ f)))))
feeds_tail a b c d e f = omega (
  arith,
  feeds-append a (b ++ 32 ∷ (c ++ (d ++ (e ++ f)))),
  feeds-append b (32 ∷ (c ++ (d ++ (e ++ f)))),
  feeds-append (32 ∷ []) (c ++ (d ++ (e ++ f))),
  feeds-append c (d ++ (e ++ f)),
  feeds-append d (e ++ f),
  feeds-append e f,
)

pub fields_fit : (block : List ℕ) (h : ResponseHead) → ReadsResponse block h [] → length h.fields ≤ header_lines block
fields_fit block h reads =
    let printed : block ≡ print_blank h.blank ++ (print_version h.minor ++ 32 ∷ (h.digits ++ (print_reason h.reason ++ (print_end h.line_end ++ (print_section h.fields h.last ++ [])))))
    = reads.1 ∙ print_response-append h [] in
    let tail = feeds_tail (print_blank h.blank) (print_version h.minor) h.digits (print_reason h.reason) (print_end h.line_end) (print_section h.fields h.last ++ []) in
    let all : feeds (print_end h.line_end) + feeds (print_section h.fields h.last ++ []) ≤ feeds block
    = subst (λ (x : List ℕ). feeds (print_end h.line_end) + feeds (print_section h.fields h.last ++ []) ≤ feeds x) (sym printed) tail in
    omega (arith, all, feeds_end h.line_end, feeds_section h.fields h.last, feeds-append (print_section h.fields h.last) [])

pub section_fits : (block : List ℕ) (fs : List Field) (last : LineEnd) → ReadsSection block fs last [] → length fs ≤ trailer_lines block
section_fits block fs last reads =
    let all : feeds block ≡ feeds (print_section fs last ++ []) = ap feeds reads.1 in
    omega (arith, all, feeds_section fs last, feeds-append (print_section fs last) [])

-- all of the bytes, with nothing behind them
pub same_length : (a b : List ℕ) → b ≡ a ++ [] → length a ≡ length b
same_length a b e = sym (ap (λ (x : List ℕ). length x) (e ∙ append_none a))
