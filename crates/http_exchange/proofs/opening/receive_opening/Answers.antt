use Rattle.std.proofs.Common.{◌≡◌, ◌∙◌, ap, sym, List, true, false, map}
use Rattle.std.proofs.lemmas.Result.{err_from_is_err_and}
use Rattle.http_message.specs.declared.head.Field.{Field}
use Rattle.http_message.specs.Framing.{is_encoded}
use Rattle.http_message.specs.Shown.{field_bytes}
use Rattle.http_exchange.proofs.Rounds.{stops_so}
use Rattle.http_exchange.proofs.Opened.{opening_found, encoded_found, wrong_found, no_head_found}
use Rattle.http_exchange.proofs.opening.receive_opening.Goals as goal

pub returns-in_err-head-clause-received : goal.returns-in_err-head-clause-received
returns-in_err-head-clause-received g c =
    let p = err_from_is_err_and c.from_residual.result c.from_residual.ensures.1 in
    rw (p.1, p.2) (stops_so _ _ _ _ _ c.in_err-head.ensures.received (no_head_found c.args.get))

pub returns-then-is_encoded-clause-received : goal.returns-then-is_encoded-clause-received
returns-then-is_encoded-clause-received g c =
    let is : is_encoded (map field_bytes c.in_ok-head.head.fields.items) ≡ true
    = ap (λ (xs : List Field). is_encoded (map field_bytes xs)) (sym c.deref.ensures.value) ∙ sym c.is_encoded.ensures ∙ c.if-is_encoded.true in
    encoded_found c.args.get c.in_ok-head.head c.in_ok-head.ensures.received is

pub returns-in_err-state-clause-received : goal.returns-in_err-state-clause-received
returns-in_err-state-clause-received g c =
    let is : is_encoded (map field_bytes c.in_ok-head.head.fields.items) ≡ false
    = ap (λ (xs : List Field). is_encoded (map field_bytes xs)) (sym c.deref.ensures.value) ∙ sym c.is_encoded.ensures ∙ c.if-is_encoded.false in
    let p = err_from_is_err_and c.from_residual-in_err-state.result c.from_residual-in_err-state.ensures.1 in
    rw (p.1, p.2) (wrong_found c.args.get c.in_ok-head.head c.in_err-state.field-0.0 c.in_ok-head.ensures.received is c.in_err-state.ensures)

pub returns-clause-received : goal.returns-clause-received
returns-clause-received g c =
    let is : is_encoded (map field_bytes c.in_ok-head.head.fields.items) ≡ false
    = ap (λ (xs : List Field). is_encoded (map field_bytes xs)) (sym c.deref.ensures.value) ∙ sym c.is_encoded.ensures ∙ c.if-is_encoded.false in
    opening_found c.args.get c.in_ok-head.head c.in_ok-state.state c.in_ok-head.ensures.received is c.in_ok-state.ensures
