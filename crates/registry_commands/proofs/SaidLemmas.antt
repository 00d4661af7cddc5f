-- What a deletion said, by the conversations alone.
use Rattle.std.proofs.Common.{◌≡◌, ◌⊎◌, ◌≤◌, ◌==◌, ◌++◌, ◌∷◌, [], ℕ, Bool, true, false, cond, List, Option, Some, None, Result, Ok, Err, Contains, append_assoc, inl, inr, refl, sym, ap, subst, ◌∙◌, arith}
use Rattle.std.specs.Prelude.{OnOk}
use Rattle.std.proofs.lemmas.Bool.{eqb-true}
use Rattle.std.proofs.lemmas.List.Elements.{Contains-append_cases}
use Rattle.skopeo_outside.specs.Outside.{Told}
use Rattle.skopeo_outside.specs.Wire.{Conversation, Conversations, Gains}
use Rattle.skopeo_outside.specs.LaneTold.{WireTold, LaneTold, AreMore, IsLaterWire, IsLater}
use Rattle.skopeo_outside.specs.declared.words.Fetched.{Fetched}
use Rattle.skopeo_outside.specs.declared.words.Step.{Step}
use Rattle.skopeo_outside.specs.declared.words.Step.TheVariants as step
use Rattle.skopeo_outside.proofs.WireLemmas.{gains_none}
use Rattle.image_ref.specs.Digest.{digest_text}
use Rattle.image_ref.specs.Reference.{Reference}
use Rattle.digest_reader.specs.Digests.{digest}
use Rattle.http_message.specs.declared.request.Request.{Request}
use Rattle.http_message.specs.declared.answer.Response.{Response}
use Rattle.http_message.specs.declared.fault.ExchangeFault.{ExchangeFault}
use Rattle.http_message.specs.Shown.{answer_of}
use Rattle.http_message.specs.Writes.{Write, Writes}
use Rattle.http_exchange.specs.Chain.{Exchanges}
use Rattle.http_exchange.specs.Plain.{GainsPlain}
use Rattle.registry_http.specs.declared.fault.RegistryFault.{RegistryFault}
use Rattle.registry_http.specs.declared.fault.RegistryFault.TheVariants as short
use Rattle.registry_http.specs.declared.registry.Registry.{Registry}
use Rattle.registry_http.specs.Puts.{GainsDelete}
use Rattle.registry_http.specs.Requests.{manifest_request, delete_request}
use Rattle.registry_http.specs.Rows.{is_success, refused, fault_of, fetched, manifest_row, done_row}
use Rattle.registry_http.specs.Steps.{Steps, CountsStep, most_manifest_bytes}
use Rattle.registry_http.proofs.PutLemmas.{single}
use Rattle.registries_conf.specs.Settings.{Settings}
use Rattle.transports.specs.Registries.{registry_of, name_in}
use Rattle.transports.proofs.RegistryLemmas.{gains_more}
use Rattle.registry_commands.specs.declared.fault.CommandFault.{CommandFault}
use Rattle.registry_commands.specs.Said.{PutsNone, IsNamed, IsGot, IsDeletedBy, IsDeleted}
use Rattle.registry_commands.specs.Deletes.{GetsManifest, SendsDelete, Deletes, Deletion, unasked, wanted, ungiven, differs, undeleted, deleted}
use Rattle.registry_commands.proofs.WireLemmas.{wire_now, wire_then, later_to}

-- ---- no manifest was put

no_conversation : (c : Conversation) → Contains {X = Conversation} [] c → ⊥
no_conversation c (k, inside, is) = omega arith

puts_nothing : (a b : Conversations) → b ≡ a → PutsNone a b
puts_nothing a b e = record { gained = []; told = gains_none a b e; none = λ w h. no_conversation h.0 h.1 }

plain_puts : (a b : Conversations) → GainsPlain a b → PutsNone a b
plain_puts a b g = record { gained = g.gained; told = g.told; none = g.plain.no_put }

delete_puts : (q : Request) (a b : Conversations) → GainsDelete q a b → PutsNone a b
delete_puts q a b g = record { gained = g.gained; told = g.told; none = g.no_put }

gains_then : (xs ys : List Conversation) (a b c : Conversations) → Gains xs a b → Gains ys b c → Gains (xs ++ ys) a c
gains_then xs ys None b c p q = subst (λ (t : Conversations). Gains ys t c) p q
gains_then xs ys (Some cs) b c p q = subst (λ (t : Conversations). Gains ys t c) p q ∙ ap (λ (t : List Conversation). Some t) (append_assoc cs xs ys)

puts_then : (a b c : Conversations) → PutsNone a b → PutsNone b c → PutsNone a c
puts_then a b c p q = record { gained = p.gained ++ q.gained; told = gains_then p.gained q.gained a b c p.told q.told; none = neither }
  where
    neither : (w : Write) → Writes (p.gained ++ q.gained) w → ⊥
    neither w (d, among, on) = by_place (Contains-append_cases p.gained q.gained d among)
      where
        by_place : Contains p.gained d ⊎ Contains q.gained d → ⊥
        by_place (inl here) = p.none w (d, here, on)
        by_place (inr there) = q.none w (d, there, on)

talks_now : (a b : WireTold) → b ≡ a → b.talks ≡ a.talks
talks_now a b e = ap (λ (w : WireTold). w.talks) e

deletes_puts : (conf : Settings) (tls : Option Bool) (r : Reference) (a b : WireTold) (result : Result (Unit {0}) CommandFault) → Deletes conf tls r a b result → PutsNone a.talks b.talks
deletes_puts conf tls r a b result (unasked may same is) = puts_nothing a.talks b.talks (talks_now a b same)
deletes_puts conf tls r a b result (wanted same is) = puts_nothing a.talks b.talks (talks_now a b same)
deletes_puts conf tls r a b result (ungiven may e gets is) = plain_puts a.talks b.talks gets.plain
deletes_puts conf tls r a b result (differs may f gets named has other is) = plain_puts a.talks b.talks gets.plain
deletes_puts conf tls r a b result (undeleted may f mid gets named e sends is) =
    puts_then a.talks mid.talks b.talks (plain_puts a.talks mid.talks gets.plain) (delete_puts (delete_request (registry_of r) (digest_text (digest f.bytes))) mid.talks b.talks sends.own)
deletes_puts conf tls r a b result (deleted may f mid gets named sends is) =
    puts_then a.talks mid.talks b.talks (plain_puts a.talks mid.talks gets.plain) (delete_puts (delete_request (registry_of r) (digest_text (digest f.bytes))) mid.talks b.talks sends.own)

pub deletion_puts : (conf : Settings) (tls : Option Bool) (r : Reference) (a b : LaneTold) (result : Result (Unit {0}) CommandFault) → Deletion conf tls r a b result → PutsNone a.to.talks b.to.talks
deletion_puts conf tls r a b result d = deletes_puts conf tls r a.to b.to result d.ends

-- ---- the wire goes on

got_later : (registry : Registry) (name : List ℕ) (a b : WireTold) (answer : Result Fetched RegistryFault) → GetsManifest registry name a b answer → IsLaterWire a b
got_later registry name a b answer g = record { talks = gains_more g.plain.gained a.talks b.talks g.plain.told; faults = g.counts.later }

sent_later : (registry : Registry) (hash : List ℕ) (a b : WireTold) (answer : Result (Unit {0}) RegistryFault) → SendsDelete registry hash a b answer → IsLaterWire a b
sent_later registry hash a b answer s = record { talks = gains_more s.own.gained a.talks b.talks s.own.told; faults = s.counts.later }

deletes_later : (conf : Settings) (tls : Option Bool) (r : Reference) (a b : WireTold) (result : Result (Unit {0}) CommandFault) → Deletes conf tls r a b result → IsLaterWire a b
deletes_later conf tls r a b result (unasked may same is) = wire_now a b same
deletes_later conf tls r a b result (wanted same is) = wire_now a b same
deletes_later conf tls r a b result (ungiven may e gets is) = got_later (registry_of r) (name_in r) a b (Err e) gets
deletes_later conf tls r a b result (differs may f gets named has other is) = got_later (registry_of r) (name_in r) a b (Ok f) gets
deletes_later conf tls r a b result (undeleted may f mid gets named e sends is) =
    wire_then a mid b (got_later (registry_of r) (name_in r) a mid (Ok f) gets) (sent_later (registry_of r) (digest f.bytes) mid b (Err e) sends)
deletes_later conf tls r a b result (deleted may f mid gets named sends is) =
    wire_then a mid b (got_later (registry_of r) (name_in r) a mid (Ok f) gets) (sent_later (registry_of r) (digest f.bytes) mid b (Ok tt) sends)

pub deletion_later : (conf : Settings) (tls : Option Bool) (r : Reference) (a b : LaneTold) (result : Result (Unit {0}) CommandFault) → Deletion conf tls r a b result → IsLater a b
deletion_later conf tls r a b result d = later_to a b d.on (deletes_later conf tls r a.to b.to result d.ends)

-- ---- what a manifest that came says

no_ok : {A : Type 0} (x : A) (f : RegistryFault) → Ok x ≡ Err f → ⊥
no_ok {A} x f e = cc

-- an answer of a step that is Ok is its row
row_of : {A : Type 0} (x : A) (row : Result A RegistryFault) → (Ok x ≡ Err short.Memory) ⊎ (Ok x ≡ row) → row ≡ Ok x
row_of {A} x row (inl e) = absurd (no_ok x short.Memory e)
row_of {A} x row (inr e) = sym e

-- conversations were gained by a GET that gave these bytes
record Got (q : Request) (bytes : List ℕ) (old new : Conversations) : Type 0 where
  cs : List Conversation
  told : Gains cs old new
  is : IsGot q bytes cs

-- a 200 whose body these bytes are
record Gives (response : Response) (bytes : List ℕ) : Type 0 where
  status : response.status ≡ 200
  body : response.body ≡ bytes

same_fetched : (f g : Fetched) → ◌≡◌ {A = Result Fetched RegistryFault} (Ok f) (Ok g) → f ≡ g
same_fetched f g e = cc

gives : (response : Response) (f : Fetched) (b : Bool) → (response.status == 200) ≡ b → cond b (Ok (fetched response)) (refused step.Manifest response.status) ≡ Ok f → Gives response f.bytes
gives response f true is e = record { status = eqb-true response.status 200 is; body = ap (λ (x : Fetched). x.bytes) (same_fetched (fetched response) f e) }
gives response f false is e = absurd (no_refusal e)
  where
    no_refusal : refused {A = Fetched} step.Manifest response.status ≡ Ok f → ⊥
    no_refusal e = cc

got_by : (q : Request) (old new : Conversations) (f : Fetched) (a : Result Response ExchangeFault) → Exchanges step.Manifest q [] most_manifest_bytes old new a → manifest_row step.Manifest a ≡ Ok f → Got q f.bytes old new
got_by q old new f (Ok response) e is =
    let g = gives response f (response.status == 200) refl is in
    record {
      cs = e.hops ++ e.gained;
      told = e.told;
      is = record {
        count = e.count;
        few = e.few;
        hops = e.hops;
        last = e.last;
        follows = e.follows;
        c = e.ends.1.0;
        all = ap (λ (x : List Conversation). e.hops ++ x) e.ends.1.1;
        a = answer_of response;
        comes = e.ends.1.2;
        stays = e.ends.0;
        status = g.status;
        body = g.body;
      };
    }
got_by q old new f (Err fault) e is = absurd (no_ok f (fault_of fault) (sym is))

got : (registry : Registry) (name : List ℕ) (a b : WireTold) (f : Fetched) → GetsManifest registry name a b (Ok f) → Got (manifest_request registry name) f.bytes a.talks b.talks
got registry name a b f g = got_by (manifest_request registry name) a.talks b.talks f g.step.answer g.step.exchanged (row_of f (manifest_row step.Manifest g.step.answer) g.step.reads)

-- ---- what a deletion that was answered well says

-- one conversation was gained, in which a DELETE was answered 2xx
record Gone (registry : Registry) (hash : List ℕ) (old new : Conversations) : Type 0 where
  c : Conversation
  told : Gains (c ∷ []) old new
  is : IsDeletedBy registry hash c

done : (status : ℕ) (b : Bool) → is_success status ≡ b → cond b (Ok tt) (refused {A = Unit {0}} step.Delete status) ≡ Ok tt → is_success status ≡ true
done status true is e = is
done status false is e = absurd (no_refusal e)
  where
    no_refusal : refused {A = Unit {0}} step.Delete status ≡ Ok tt → ⊥
    no_refusal e = cc

gone_by : (registry : Registry) (hash : List ℕ) (old new : Conversations) (a : Result Response ExchangeFault) → Exchanges step.Delete (delete_request registry (digest_text hash)) [] 0 old new a → done_row step.Delete a ≡ Ok tt
    → Gone registry hash old new
gone_by registry hash old new (Ok response) e is =
    let s = single step.Delete (delete_request registry (digest_text hash)) [] 0 old new (Ok response) (record { no_get = refl; no_head = refl }) e in
    record {
      c = s.ends.1.0;
      told = subst (λ (g : List Conversation). Gains g old new) s.ends.1.1 s.told;
      is = record { a = answer_of response; comes = s.ends.1.2; status = done response.status (is_success response.status) refl is };
    }
gone_by registry hash old new (Err fault) e is = absurd (no_ok tt (fault_of fault) (sym is))

gone : (registry : Registry) (hash : List ℕ) (a b : WireTold) → SendsDelete registry hash a b (Ok tt) → Gone registry hash a.talks b.talks
gone registry hash a b s = gone_by registry hash a.talks b.talks s.step.answer s.step.exchanged (row_of tt (done_row step.Delete s.step.answer) s.step.reads)

err_done : (e : CommandFault) (d : Unit {0}) → ◌≡◌ {A = Result (Unit {0}) CommandFault} (Ok d) (Err e) → ⊥
err_done e d h = cc

deletes_done : (conf : Settings) (tls : Option Bool) (r : Reference) (a b : WireTold) (d : Unit {0}) → Deletes conf tls r a b (Ok d) → IsDeleted r a.talks b.talks
deletes_done conf tls r a b d (unasked may same is) = absurd (err_done _ d is)
deletes_done conf tls r a b d (wanted same is) = absurd (err_done _ d is)
deletes_done conf tls r a b d (ungiven may e gets is) = absurd (err_done _ d is)
deletes_done conf tls r a b d (differs may f gets named has other is) = absurd (err_done _ d is)
deletes_done conf tls r a b d (undeleted may f mid gets named e sends is) = absurd (err_done _ d is)
deletes_done conf tls r a b d (deleted may f mid gets named sends is) =
    let g = got (registry_of r) (name_in r) a mid f gets in
    let h = gone (registry_of r) (digest f.bytes) mid b sends in
    record {
      bytes = f.bytes;
      before = g.cs;
      last = h.c;
      told = gains_then g.cs (h.c ∷ []) a.talks mid.talks b.talks g.told h.told;
      got = g.is;
      named = named;
      deleted = h.is;
    }

pub deletion_done : (conf : Settings) (tls : Option Bool) (r : Reference) (a b : LaneTold) (result : Result (Unit {0}) CommandFault) → Deletion conf tls r a b result → OnOk result (IsDeleted r a.to.talks b.to.talks)
deletion_done conf tls r a b (Ok done) d = deletes_done conf tls r a.to b.to done d.ends
deletion_done conf tls r a b (Err e) d = tt
