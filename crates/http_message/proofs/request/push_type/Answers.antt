use Rattle.http_message.proofs.WrittenLemmas.{type_written}
use Rattle.http_message.proofs.request.push_type.Goals as goal

pub returns-in_ok-push_line-in-Some : goal.returns-in_ok-push_line-in-Some
returns-in_ok-push_line-in-Some c = record {
  lines = type_written c.args.text.now c.push_line.new.text c.as_str.result.now c.in-Some.content_type c.args.content_type.now
      c.in_ok-push_line-in-Some.ensures.line c.as_str.ensures c.in-Some.is;
}
