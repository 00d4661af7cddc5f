-- What requests write on a wire.
use Rattle.std.proofs.Common.{◌≡◌, ◌≢◌, ℕ, true, false, Bool, List, [], ◌∷◌, ◌++◌, codes, Option, Some, None, refl, sym, subst, ◌∙◌, ◌<◌, arith}
use Rattle.skopeo_outside.specs.Wire.{Conversation}
use Rattle.http_message.specs.declared.request.Request.{Request}
use Rattle.http_message.specs.Sent.{puts_manifest}
use Rattle.http_message.specs.Requests.{accept_line, type_line, size_line}
use Rattle.http_message.specs.Writes.{OwnWrites, PutWrites, PlainRequests}
use Rattle.http_message.proofs.RequestHeads.{one_head, puts_none, deletes_none, are_lines_of}

pub own_writes : (r : Request) → OwnWrites r
own_writes r body c w b on =
    let p = one_head r body c.sent b.tail w.lines w.body b.begins on.head in
    record { lines_are = p.0; rest = b.tail; body_is = p.1 }

never : false ≡ true → ⊥
never e = cc

put_of_type : (a : Bool) (host target : List ℕ) (t : List ℕ) (n : Option ℕ) → puts_manifest
    ((codes "PUT" ++ (codes " " ++ (target ++ codes " HTTP/1.1"))) ∷ (codes "Host: " ++ host) ∷ codes "User-Agent: skopeo"
    ∷ (accept_line a ++ (codes "Accept-Encoding: identity" ∷ (type_line (Some t) ++ (size_line n ++ (codes "Connection: close" ∷ [])))))) ≡ true
put_of_type false host target t n = refl
put_of_type true host target t n = refl

typed_put : (m : List ℕ) (a : Bool) (host target : List ℕ) (t : Option (List ℕ)) (n : Option ℕ) → m ≡ codes "PUT" → t ≢ None → puts_manifest
    ((m ++ (codes " " ++ (target ++ codes " HTTP/1.1"))) ∷ (codes "Host: " ++ host) ∷ codes "User-Agent: skopeo"
    ∷ (accept_line a ++ (codes "Accept-Encoding: identity" ∷ (type_line t ++ (size_line n ++ (codes "Connection: close" ∷ [])))))) ≡ true
typed_put m a host target None n e some = absurd (some refl)
typed_put m a host target (Some t) n e some =
    subst (λ (w : List ℕ). puts_manifest ((w ++ (codes " " ++ (target ++ codes " HTTP/1.1"))) ∷ (codes "Host: " ++ host) ∷ codes "User-Agent: skopeo"
    ∷ (accept_line a ++ (codes "Accept-Encoding: identity" ∷ (type_line (Some t) ++ (size_line n ++ (codes "Connection: close" ∷ [])))))) ≡ true) (sym e)
    (put_of_type a host target t n)

pub put_writes : (r : Request) → PutWrites r
put_writes r body c clean is_put typed e = record {
  host_is = refl;
  port_is = refl;
  head = record { before = []; whole = λ k d inside. absurd (none k inside); head = are_lines_of r clean; sent_is = e };
  puts = typed_put r.method r.accept r.host r.target r.content_type r.length is_put typed;
}
  where
    none : (k : ℕ) → k < 0 → ⊥
    none k inside = omega arith

pub plain_requests : (gained : List Conversation) → PlainRequests gained
plain_requests gained each = record {
  no_put = λ w written.
      let p = each written.0 written.1 in
      never (sym (puts_none p.request p.body written.0.sent p.begun.tail w.lines w.body p.no_put p.begun.begins written.2.head) ∙ written.2.puts);
  no_delete = λ c lines after among has.
      let p = each c among in
      deletes_none p.request p.body c.sent p.begun.tail lines after p.no_delete p.begun.begins has;
}
