use Rattle.http_message.proofs.WriteLaws.{own_writes, put_writes, plain_requests}
use Rattle.http_message.proofs.law.own_writes.Goals as goal

pub returns : goal.returns
returns c = record { own = own_writes; put = put_writes; plain = plain_requests }
