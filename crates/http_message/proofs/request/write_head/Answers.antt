use Rattle.std.proofs.Common.{ℕ, List, [], ◌∷◌, ◌++◌, codes, ap, ◌∙◌}
use Rattle.http_message.specs.Requests.{first_line, accept_line, type_line, size_line, lines_of}
use Rattle.http_message.specs.Sent.{with_head}
use Rattle.http_message.specs.Written.{written}
use Rattle.http_message.proofs.WrittenLemmas.{lines_more}
use Rattle.http_message.proofs.request.write_head.Goals as goal

pub returns : goal.returns
returns c =
    let r = c.args.request.now in
    let close : List (List ℕ) = codes "Connection: close" ∷ [] in
    let size : List (List ℕ) = size_line r.length ++ close in
    let type : List (List ℕ) = codes "Accept-Encoding: identity" ∷ (type_line r.content_type ++ size) in
    let accept : List (List ℕ) = codes "User-Agent: skopeo" ∷ (accept_line r.accept ++ type) in
    record {
      text = c.in_ok-push_str.ensures.ok
          ∙ lines_more c.push_size.new.text c.push_line-4.new.text close [] c.in_ok-push_line-4.ensures.line
          ∙ lines_more c.push_type.new.text c.push_size.new.text (size_line r.length) close c.in_ok-push_size.ensures.lines
          ∙ lines_more c.push_line-3.new.text c.push_type.new.text (type_line r.content_type) size c.in_ok-push_type.ensures.lines
          ∙ lines_more c.push_accept.new.text c.push_line-3.new.text (codes "Accept-Encoding: identity" ∷ []) (type_line r.content_type ++ size) c.in_ok-push_line-3.ensures.line
          ∙ lines_more c.push_line-2.new.text c.push_accept.new.text (accept_line r.accept) type c.in_ok-push_accept.ensures.lines
          ∙ lines_more c.push_line.new.text c.push_line-2.new.text (codes "User-Agent: skopeo" ∷ []) (accept_line r.accept ++ type) c.in_ok-push_line-2.ensures.line
          ∙ lines_more c.push_first.new.text c.push_line.new.text ((codes "Host: " ++ r.host) ∷ []) accept
          (c.in_ok-push_line.ensures.line ∙ ap (λ (w : List ℕ). c.push_first.new.text ++ written ((codes "Host: " ++ w) ∷ [])) c.as_str.ensures)
          ∙ lines_more c.new-text.result c.push_first.new.text (first_line r ∷ []) ((codes "Host: " ++ r.host) ∷ accept) c.in_ok-push_first.ensures.line
          ∙ ap (λ (w : List ℕ). w ++ with_head (lines_of r) []) c.new-text.ensures;
    }
