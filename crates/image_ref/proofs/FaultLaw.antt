-- What is answered to a text: a reference, or the first fault of the table.
use Rattle.std.proofs.Common.{◌≡◌, ℕ, suc, ◌+◌, ◌<◌, ◌==◌, nat_lt, true, false, List, [], ◌∷◌, length, Option, Some, None, Result, Ok, Err, refl, ap, subst, arith, inl, inr}
use Rattle.std.specs.Prelude.{if◌then◌else◌}
use Rattle.std.proofs.lemmas.Bool.{cases_Bool, cases_lt}
use Rattle.std.proofs.lemmas.Bool.Decides.{nat_tests}
use Rattle.std.specs.List.{position_or_len}
use Rattle.image_ref.specs.Characters.{is_upper}
use Rattle.image_ref.specs.Digest.{IsDigestText, digest_of}
use Rattle.image_ref.specs.Domain.{IsDomain, is_domain, passes_or_none}
use Rattle.image_ref.specs.Pieces.{Pieces, AreCut, path_at, components_of}
use Rattle.image_ref.specs.Faults.{Holds, row, IsFirstFault}
use Rattle.image_ref.specs.Reference.{Reference, IsTag, is_tag, is_hex_name, repository_of}
use Rattle.image_ref.specs.Reading.{pieces_of, judged, reading_of, bad_component, path_checked, fits, value_of, digest_passes, is_there}
use Rattle.image_ref.specs.declared.fault.RefFault.{RefFault}
use Rattle.image_ref.specs.declared.fault.RefFault.TheVariants.{Empty, HexName, BadDigest, BadTag, BadHost, UpperCase, BadPath, TooLong}
use Rattle.image_ref.proofs.DomainLaw.{is_domain-from, is_domain-to}
use Rattle.image_ref.proofs.PieceLaw.{pieces_cut}
use Rattle.image_ref.proofs.FirstLemmas.{wrong_from, not_wrong, digest_from, digest_to, upper_found, no_upper_left, bad_found, bad_once}

-- ---- the rows in order

-- no row before this one holds
abbrev pub Clear : ℕ → List ℕ → Pieces → Type 0
Clear n text p = (other : RefFault) → row other < n → Holds text p other → ⊥

abbrev pub Fails : ℕ → List ℕ → Pieces → Type 0
Fails n text p = (other : RefFault) → row other ≡ n → Holds text p other → ⊥

pub more : (n : ℕ) (text : List ℕ) (p : Pieces) → Clear n text p → Fails n text p → Clear (n + 1) text p
more n text p clear fails other lt h =
    elim (cases_lt (row other) n) [
      | inl below ↦ clear other below h
      | inr above ↦ fails other (omega arith) h
    ]

no_row : (text : List ℕ) (p : Pieces) → Clear 0 text p
no_row text p other lt h = omega arith

empty_fails : (text : List ℕ) (p : Pieces) → (length text == 0) ≡ false → Fails 0 text p
empty_fails text p some Empty e h = cc (some, ap (λ t. length t == 0) h)
empty_fails text p some other e h = absurd (omega arith)

hex_fails : (text : List ℕ) (p : Pieces) → is_hex_name text ≡ false → Fails 1 text p
hex_fails text p plain HexName e h = cc (plain, h)
hex_fails text p plain other e h = absurd (omega arith)

digest_fails : (text : List ℕ) (p : Pieces) → digest_passes p.digest ≡ true → Fails 2 text p
digest_fails text p good (BadDigest at) e h = not_wrong IsDigestText (λ t. is_there (digest_of t)) digest_to p.digest good h.0
digest_fails text p good other e h = absurd (omega arith)

tag_fails : (text : List ℕ) (p : Pieces) → passes_or_none is_tag p.tag ≡ true → Fails 3 text p
tag_fails text p good (BadTag at) e h = not_wrong IsTag is_tag (λ t k. k) p.tag good h.0
tag_fails text p good other e h = absurd (omega arith)

host_fails : (text : List ℕ) (p : Pieces) → passes_or_none is_domain p.host ≡ true → Fails 4 text p
host_fails text p good (BadHost at) e h = not_wrong IsDomain is_domain is_domain-to p.host good h.0
host_fails text p good other e h = absurd (omega arith)

upper_fails : (text : List ℕ) (p : Pieces) → nat_lt (position_or_len is_upper p.path) (length p.path) ≡ false → Fails 5 text p
upper_fails text p none (UpperCase at) e h = no_upper_left p.path h.0 none h.1
upper_fails text p none other e h = absurd (omega arith)

path_fails : (text : List ℕ) (p : Pieces) → bad_component (path_at p) (components_of p.path) ≡ None → Fails 6 text p
path_fails text p none (BadPath at) e h = cc (none, bad_once (path_at p) (components_of p.path) h.0 h.1)
path_fails text p none other e h = absurd (omega arith)

long_fails : (text : List ℕ) (p : Pieces) → nat_lt 255 (length (repository_of (value_of p))) ≡ false → Fails 7 text p
long_fails text p short TooLong e h = not_longer (length (repository_of (value_of p))) short h
  where
    not_longer : (n : ℕ) → nat_lt 255 n ≡ false → 255 < n → ⊥
    not_longer n h k = grind (arith, nat_tests)
long_fails text p short other e h = absurd (omega arith)

-- ---- what is answered

-- a fault is the first one, and with a value no row holds
abbrev pub Judges : List ℕ → Pieces → Result Reference RefFault → Type 0
Judges text p (Ok r) = Clear 8 text p
Judges text p (Err e) = IsFirstFault text e

pub longer : (n : ℕ) → nat_lt 255 n ≡ true → 255 < n
longer n h = grind (arith, nat_tests)

judges_length : (text : List ℕ) (p : Pieces) → AreCut text p → Clear 7 text p → Judges text p (fits (value_of p))
judges_length text p cut clear =
    elim (cases_Bool (nat_lt 255 (length (repository_of (value_of p))))) [
      | inl long ↦ rw long (record { pieces = p; cut = cut; holds = longer (length (repository_of (value_of p))) long; first = clear })
      | inr short ↦ rw short (more 7 text p clear (long_fails text p short))
    ]

judges_path : (text : List ℕ) (p : Pieces) → AreCut text p → Clear 6 text p → (bad : Option ℕ) → bad_component (path_at p) (components_of p.path) ≡ bad → Judges text p (path_checked p bad (fits (value_of p)))
judges_path text p cut clear None e = judges_length text p cut (more 6 text p clear (path_fails text p e))
judges_path text p cut clear (Some at) e =
    let found = bad_found (path_at p) (components_of p.path) at e in
    record { pieces = p; cut = cut; holds = (found.behind, found.is, found.place); first = clear }

judges_upper : (text : List ℕ) (p : Pieces) → AreCut text p → Clear 5 text p
    → Judges text p (if nat_lt (position_or_len is_upper p.path) (length p.path) then Err (UpperCase (path_at p + position_or_len is_upper p.path))
    else path_checked p (bad_component (path_at p) (components_of p.path)) (fits (value_of p)))
judges_upper text p cut clear =
    elim (cases_Bool (nat_lt (position_or_len is_upper p.path) (length p.path))) [
      | inl upper ↦ rw upper (record { pieces = p; cut = cut; holds = (position_or_len is_upper p.path, upper_found p.path upper, refl); first = clear })
      | inr none ↦ rw none (judges_path text p cut (more 5 text p clear (upper_fails text p none)) (bad_component (path_at p) (components_of p.path)) refl)
    ]

judges_pieces : (text : List ℕ) (p : Pieces) → AreCut text p → Clear 2 text p → Judges text p (judged p)
unfolding judged
judges_pieces text p cut clear =
    elim (cases_Bool (digest_passes p.digest)) [
      | inr bad ↦ rw bad (record { pieces = p; cut = cut; holds = (wrong_from IsDigestText (λ t. is_there (digest_of t)) digest_from p.digest bad, refl); first = clear })
      | inl digest ↦
          let clear3 = more 2 text p clear (digest_fails text p digest) in
          elim (cases_Bool (passes_or_none is_tag p.tag)) [
            | inr bad ↦ rw (digest, bad) (record { pieces = p; cut = cut; holds = (wrong_from IsTag is_tag (λ t k. k) p.tag bad, refl); first = clear3 })
            | inl tag ↦
                let clear4 = more 3 text p clear3 (tag_fails text p tag) in
                elim (cases_Bool (passes_or_none is_domain p.host)) [
                  | inr bad ↦ rw (digest, tag, bad) (record { pieces = p; cut = cut; holds = (wrong_from IsDomain is_domain is_domain-from p.host bad, refl); first = clear4 })
                  | inl host ↦ rw (digest, tag, host) (judges_upper text p cut (more 4 text p clear4 (host_fails text p host)))
                ]
          ]
    ]

empty_text : (text : List ℕ) → (length text == 0) ≡ true → text ≡ []
empty_text [] h = refl
empty_text (b ∷ rest) h = absurd (no_zero (length rest) h)
  where
    no_zero : (n : ℕ) → (suc n == 0) ≡ true → ⊥
    no_zero n h = grind (arith, nat_tests)

pub reading_judges : (text : List ℕ) → Judges text (pieces_of text) (reading_of text)
unfolding reading_of
reading_judges text =
    let p = pieces_of text in
    elim (cases_Bool (length text == 0)) [
      | inl empty ↦ rw empty (record { pieces = pieces_of text; cut = pieces_cut text; holds = empty_text text empty; first = no_row text (pieces_of text) })
      | inr some ↦
          let clear1 = more 0 text (pieces_of text) (no_row text (pieces_of text)) (empty_fails text (pieces_of text) some) in
          elim (cases_Bool (is_hex_name text)) [
            | inl hex ↦ rw (some, hex) (record { pieces = pieces_of text; cut = pieces_cut text; holds = hex; first = clear1 })
            | inr plain ↦ rw (some, plain) (judges_pieces text (pieces_of text) (pieces_cut text) (more 1 text (pieces_of text) clear1 (hex_fails text (pieces_of text) plain)))
          ]
    ]

pub fault_first : (text : List ℕ) (e : RefFault) → reading_of text ≡ Err e → IsFirstFault text e
fault_first text e h = subst (Judges text (pieces_of text)) h (reading_judges text)
