-- What one exchange with a registry gives, and an answer that is read piece by piece.
use Rattle.std.proofs.Common.{◌≡◌, ◌⊎◌, ◌∙◌, ◌+◌, ◌-◌, ◌≤◌, ◌==◌, ◌||◌, ◌++◌, ◌∷◌, [], ℕ, Bool, true, false, cond, List, Some, None, Result, Ok, Err, length, take, length-append, append_assoc, inl, inr, refl, sym, ap, subst, arith}
use Rattle.std.proofs.lemmas.List.{length-take-le}
use Rattle.std.proofs.lemmas.Bool.{eqb-true, eq-eqb}
use Rattle.skopeo_outside.specs.Outside.{Told, Rose}
use Rattle.skopeo_outside.specs.Wire.{Conversation, Conversations, Gains, with_received}
use Rattle.skopeo_outside.specs.LaneTold.{LaneTold, WireTold, FilesTold, AreMore, IsLater, IsLaterWire, IsLaterFiles}
use Rattle.skopeo_outside.specs.LaneLaws.{later_same, told_then, more_then}
use Rattle.skopeo_outside.specs.declared.words.Step.{Step}
use Rattle.skopeo_outside.specs.declared.words.Step.TheVariants as step
use Rattle.skopeo_outside.proofs.WireLemmas.{append_none}
use Rattle.image_ref.specs.Reference.{Reference}
use Rattle.httparse.specs.Grammar.{ResponseHead}
use Rattle.http_message.specs.declared.request.Request.{Request}
use Rattle.http_message.specs.declared.answer.Response.{Response}
use Rattle.http_message.specs.declared.framing.Framing.{Framing}
use Rattle.http_message.specs.declared.fault.AnswerFault.TheVariants as short
use Rattle.http_message.specs.declared.fault.ExchangeFault.{ExchangeFault}
use Rattle.http_message.specs.declared.fault.ExchangeFault.TheVariants as long
use Rattle.http_message.specs.Outcome.{Outcome, answer}
use Rattle.http_message.specs.Faults.{shown}
use Rattle.http_message.specs.Heads.{most_interim}
use Rattle.http_message.specs.Spelling.{FramedBody, answer_with, Spells}
use Rattle.http_exchange.specs.Reader.{Streams, IsReady}
use Rattle.http_exchange.specs.Streaming.{IsFront, IsBody, IsNoBody}
use Rattle.http_exchange.specs.Opening.{body_framing}
use Rattle.http_exchange.specs.Talk.{is_get, Comes, Opens}
use Rattle.http_exchange.specs.Chain.{EndsBy, most_redirects}
use Rattle.http_exchange.specs.Calls.{Opened, IsOpened, OpensAnswer, GivesPiece, Says}
use Rattle.http_exchange.proofs.Opened.{final-append}
use Rattle.http_exchange.proofs.WholeExchanges.{gains_on-last, shown_more, spells_body, spells_no_body, asks_on}
use Rattle.registry_http.specs.declared.fault.RegistryFault.{RegistryFault}
use Rattle.registry_http.specs.declared.fault.RegistryFault.TheVariants as opening
use Rattle.registry_http.specs.declared.registry.Registry.{Registry}
use Rattle.registry_http.specs.Requests.{blob_request}
use Rattle.registry_http.specs.Rows.{blob_row, fault_of}
use Rattle.registry_http.specs.Steps.{Steps, OpensBlob, CountsStep}
use Rattle.digest_reader.specs.declared.job.Job.{Job}
use Rattle.copy_workers.specs.declared.cause.Cause.{Cause}
use Rattle.copy_workers.specs.declared.cause.Cause.TheVariants as why
use Rattle.transports.specs.declared.blob.Blob.TheVariants as blob
use Rattle.transports.specs.declared.source.Source.{Source}
use Rattle.transports.specs.declared.source.Source.TheVariants as source
use Rattle.transports.specs.Calls.{exchange_by, fault_by}
use Rattle.transports.specs.Given.{BlobEnds, GaveFront, GaveAll, IsReadAt, HasGiven, Rests}
use Rattle.transports.specs.Has.{IsUntouched}
use Rattle.transports.specs.Next.{GivesMore, GivesNoMore}
use Rattle.transports.specs.Registries.{registry_of, request_of, LeadsTo, HasBody, BeginsWith, HasStatus, GivesNone, cause_of, BlobAt, refused, none, IsReadTo, IsReading}
use Rattle.transports.specs.StepEnds.{FailsBy}
use Rattle.transports.specs.Tried.{OnSource}
use Rattle.transports.specs.Uploads.{is_mismatch}
use Rattle.transports.specs.Within.{Within}
use Rattle.transports.proofs.WithinLemmas.{within_now}

-- ---- how a lane goes on where its wire to the source alone takes part

-- conversations that were gained are more
pub gains_more : (gained : List Conversation) (old new : Conversations) → Gains gained old new → Told AreMore old new
gains_more gained None new g = tt
gains_more gained (Some cs) new g = subst (λ (t : Conversations). Told AreMore (Some cs) t) (sym g) (record { more = gained; is = refl })

pub later_source : (a b : LaneTold) → OnSource a b → Told AreMore a.from.talks b.from.talks → a.from.faults ≤ b.from.faults → IsLater a b
later_source a b on talks le = record {
  from = record { talks = talks; faults = le };
  to = subst (λ (w : WireTold). IsLaterWire a.to w) (sym on.to) (later_same a).to;
  files = subst (λ (f : FilesTold). IsLaterFiles a.files f) (sym on.files) (later_same a).files;
  number = on.number;
}

pub untouched_source : (a b : LaneTold) → OnSource a b → IsUntouched a b
untouched_source a b on = record { files = ap (λ (f : FilesTold). f.tree) on.files; to = ap (λ (w : WireTold). w.talks) on.to }

pub steps_later : {A : Type 0} (s : Step) (r : Request) (body : List ℕ) (limit : ℕ) (row : Result Response ExchangeFault → Result A RegistryFault) (a b : LaneTold) (result : Result A RegistryFault)
    → OnSource a b → Steps s r body limit row a.from.talks b.from.talks result → CountsStep a.from.faults b.from.faults result → IsLater a b
steps_later s r body limit row a b result on steps counts = later_source a b on (gains_more (steps.exchanged.hops ++ steps.exchanged.gained) a.from.talks b.from.talks steps.exchanged.told) counts.later

pub opens_later : (r : Request) (a b : LaneTold) (result : Result Opened RegistryFault) → OnSource a b → OpensBlob r a.from.talks b.from.talks result → CountsStep a.from.faults b.from.faults result → IsLater a b
opens_later r a b result on opens counts = later_source a b on (gains_more (opens.opened.hops ++ opens.opened.gained) a.from.talks b.from.talks opens.opened.told) counts.later

pub leads_as : (r : Request) (P Q : Request → Conversation → Type 0) → ((last : Request) (c : Conversation) → P last c → Q last c) → (old new : Conversations) → LeadsTo r P old new → LeadsTo r Q old new
leads_as r P Q go old new l = record { count = l.count; few = l.few; hops = l.hops; last = l.last; follows = l.follows; talk = l.talk; told = l.told; is = go l.last l.talk l.is }

leads_more : (r : Request) (P : Request → Conversation → Type 0) (old new : Conversations) → LeadsTo r P old new → Told AreMore old new
leads_more r P old new l = gains_more (l.hops ++ l.talk ∷ []) old new l.told

-- ---- no connection is open

pub rests_folder : (path : List ℕ) (now : LaneTold) → Rests (source.Folder path) now
unfolding Rests
rests_folder path now = tt

pub rests_closed : (r : Reference) (now : LaneTold) → now.from.is_open ≡ false → Rests (source.Registry r) now
unfolding Rests
rests_closed r now closed = closed

-- ---- an answer that was opened

ok_same : {A E : Type 0} (x y : A) → ◌≡◌ {A = Result A E} (Ok x) (Ok y) → x ≡ y
ok_same x y e = cc

err_same : {A E : Type 0} (x y : E) → ◌≡◌ {A = Result A E} (Err x) (Err y) → x ≡ y
err_same x y e = cc

-- the answer of a 200
record IsYes (x a : Opened) : Type 0 where
  same : a ≡ x
  status : x.status ≡ 200

yes_of : (x a : Opened) → ◌≡◌ {A = Result Opened RegistryFault} (Ok a) (blob_row (Ok x)) → IsYes x a
yes_of x a is = by (x.status == 200) refl is
  where
    by : (b : Bool) → (x.status == 200) ≡ b → ◌≡◌ {A = Result Opened RegistryFault} (Ok a) (cond b (Ok x) (Err (opening.Status step.Blob 0 x.status))) → IsYes x a
    by true e is = record { same = ok_same {E = RegistryFault} a x is; status = eqb-true x.status 200 e }
    by false e is = let no : ◌≡◌ {A = Result Opened RegistryFault} (Ok a) (Err (opening.Status step.Blob 0 x.status)) = is in cc

reads_opened : (a : Opened) (r : Request) (c : Conversation) → IsOpened step.Blob r a c → a.status ≡ 200 → IsReadTo a [] r c
reads_opened a r c o status = record {
  h = o.h;
  seen = o.rest;
  opens = o.opens;
  status = sym o.status ∙ status;
  front = record { front = λ limit more body ended b. (body, refl) };
  streams = subst (λ (t : Bool). Streams a.reader (body_framing (is_get r) o.h) [] o.rest t) (sym o.more) o.streams;
  noted = o.noted;
  step_is = o.step_is;
}

leads_opened : (q : Request) (a : Opened) (old new : Conversations) → OpensAnswer step.Blob q old new (Ok a) → a.status ≡ 200 → LeadsTo q (IsReadTo a []) old new
leads_opened q a old new o status = record {
  count = o.count;
  few = o.few;
  hops = o.hops;
  last = o.last;
  follows = o.follows;
  talk = o.opens.1.0;
  told = subst (λ g. Gains (o.hops ++ g) old new) o.opens.1.1 o.told;
  is = reads_opened a o.last o.opens.1.0 o.opens.1.2 status;
}

pub blob_leads : (q : Request) (a : Opened) (old new : Conversations) → OpensBlob q old new (Ok a) → LeadsTo q (IsReadTo a []) old new
blob_leads q a old new o = by o.answer o.opened o.reads
  where
    by : (x : Result Opened ExchangeFault) → OpensAnswer step.Blob q old new x → ◌⊎◌ (◌≡◌ {A = Result Opened RegistryFault} (Ok a) (Err opening.Memory)) (◌≡◌ {A = Result Opened RegistryFault} (Ok a) (blob_row x)) → LeadsTo q (IsReadTo a []) old new
    by x opened (inl e) = let n : ◌≡◌ {A = Result Opened RegistryFault} (Ok a) (Err opening.Memory) = e in cc
    by (Err f) opened (inr e) = let n : ◌≡◌ {A = Result Opened RegistryFault} (Ok a) (Err (fault_of f)) = e in cc
    by (Ok x) opened (inr is) =
        let y = yes_of x a is in
        leads_opened q a old new (subst (λ (z : Opened). OpensAnswer step.Blob q old new (Ok z)) (sym y.same) opened) (ap (λ (z : Opened). z.status) y.same ∙ y.status)

begins_of : (a : Opened) (given : List ℕ) (r : Request) (c : Conversation) → IsReadTo a given r c → BeginsWith given r c
begins_of a given r c i = record { h = i.h; seen = i.seen; opens = i.opens; status = i.status; front = i.front }

pub opened_given : (r : Reference) (job : Job) (a : Opened) (old new : LaneTold) → OnSource old new → OpensBlob (request_of r job) old.from.talks new.from.talks (Ok a) → CountsStep {A = Opened} old.from.faults new.from.faults (Ok a)
    → a.reader.failed ≡ None → new.from.is_open ≡ true → HasGiven (source.Registry r) job (blob.Answer a 0) old new []
unfolding IsReadAt GaveFront
opened_given r job a old new on opens counts alive is_open =
    let leads = blob_leads (request_of r job) a old.from.talks new.from.talks opens in
    record {
      reads = record { start = old; before = later_same old; leads = leads; counts = counts.later; ready = λ _ _. is_open; blames = λ failed. (let no : None ≡ Some short.Wire = sym alive ∙ failed in cc) };
      count = refl;
      front = within_now (λ x y. LeadsTo (request_of r job) (BeginsWith []) x.from.talks y.from.talks) old new (leads_as (request_of r job) (IsReadTo a []) (BeginsWith []) (begins_of a []) old.from.talks new.from.talks leads);
      later = opens_later (request_of r job) old new (Ok a) on opens counts;
    }

-- ---- one that was not

memory_free : (s : Source) (job : Job) (a b : LaneTold) (e : Cause) → e ≡ why.Memory → FailsBy s job e a b
memory_free s job a b e is = subst (λ x. FailsBy s job x a b) (sym is) (inl (record { free = refl; blames = tt }))

wire_free : (s : Source) (job : Job) (a b : LaneTold) → Rose a.from.faults b.from.faults → FailsBy s job (why.Wire b.from.faults) a b
wire_free s job a b rose = inl (record { free = refl; blames = inl (record { is = refl; rose = rose }) })

none_opened : (q : Request) (f : ExchangeFault) (old new : Conversations) → OpensAnswer step.Blob q old new (Err f) → GivesNone step.Blob q f old new
none_opened q f old new o = record { count = o.count; few = o.few; hops = o.hops; last = o.last; follows = o.follows; gained = o.gained; told = o.told; given = 0; why = λ limit le. o.opens limit }

status_of : (q : Request) (x : Opened) (old new : Conversations) → OpensAnswer step.Blob q old new (Ok x) → LeadsTo q (HasStatus x.status) old new
status_of q x old new o = record {
  count = o.count;
  few = o.few;
  hops = o.hops;
  last = o.last;
  follows = o.follows;
  talk = o.opens.1.0;
  told = subst (λ g. Gains (o.hops ++ g) old new) o.opens.1.1 o.told;
  is = (let i = o.opens.1.2 in record { h = i.h; rest = i.rest; opens = i.opens; status_is = sym i.status; stays = o.opens.0 });
}

pub open_fails : (r : Reference) (job : Job) (fault : RegistryFault) (old new : LaneTold) → OpensBlob (request_of r job) old.from.talks new.from.talks (Err fault)
    → CountsStep {A = Opened} old.from.faults new.from.faults (Err fault) → FailsBy (source.Registry r) job (fault_by job new.from.faults fault) old new
unfolding BlobEnds
open_fails r job fault old new o counts = by o.answer o.opened o.reads
  where
    q : Request
    q = request_of r job

    at : BlobAt q job old.from.talks new.from.talks (Err (fault_by job new.from.faults fault)) → FailsBy (source.Registry r) job (fault_by job new.from.faults fault) old new
    at b = inr (within_now (λ x y. BlobAt q job x.from.talks y.from.talks (Err (fault_by job new.from.faults fault))) old new b)

    by_status : (x : Opened) → OpensAnswer step.Blob q old.from.talks new.from.talks (Ok x) → (b : Bool) → (x.status == 200) ≡ b → ◌≡◌ {A = Result Opened RegistryFault} (Err fault) (cond b (Ok x) (Err (opening.Status step.Blob 0 x.status)))
        → FailsBy (source.Registry r) job (fault_by job new.from.faults fault) old new
    by_status x opened true e is = let n : ◌≡◌ {A = Result Opened RegistryFault} (Err fault) (Ok x) = is in cc
    by_status x opened false e is =
        let same : fault ≡ opening.Status step.Blob 0 x.status = err_same {A = Opened} fault (opening.Status step.Blob 0 x.status) is in
        at (refused x.status (λ yes. (let no : true ≡ false = sym (eq-eqb x.status 200 yes) ∙ e in cc)) (status_of q x old.from.talks new.from.talks opened)
        (ap (λ f. Err (fault_by job new.from.faults f)) same))

    by_fault : (f : ExchangeFault) → OpensAnswer step.Blob q old.from.talks new.from.talks (Err f) → fault ≡ fault_of f → FailsBy (source.Registry r) job (fault_by job new.from.faults fault) old new
    by_fault long.Memory opened is = memory_free (source.Registry r) job old new _ (ap (fault_by job new.from.faults) is)
    by_fault long.Wire opened is = subst (λ f. FailsBy (source.Registry r) job (fault_by job new.from.faults f) old new) (sym is)
        (wire_free (source.Registry r) job old new (counts.wire (ap Err is)))
    by_fault (long.BadAnswer s w) opened is = at (none _ _ (none_opened q _ old.from.talks new.from.talks opened) refl (ap (λ f. Err (fault_by job new.from.faults f)) is))
    by_fault (long.HeadTooLong n) opened is = at (none _ _ (none_opened q _ old.from.talks new.from.talks opened) refl (ap (λ f. Err (fault_by job new.from.faults f)) is))
    by_fault (long.HeadersTooMany n) opened is = at (none _ _ (none_opened q _ old.from.talks new.from.talks opened) refl (ap (λ f. Err (fault_by job new.from.faults f)) is))
    by_fault (long.BodyTooLong n) opened is = at (none _ _ (none_opened q _ old.from.talks new.from.talks opened) refl (ap (λ f. Err (fault_by job new.from.faults f)) is))
    by_fault long.Encoded opened is = at (none _ _ (none_opened q _ old.from.talks new.from.talks opened) refl (ap (λ f. Err (fault_by job new.from.faults f)) is))
    by_fault long.TooManyRedirects opened is = at (none _ _ (none_opened q _ old.from.talks new.from.talks opened) refl (ap (λ f. Err (fault_by job new.from.faults f)) is))
    by_fault (long.TlsRequired host) opened is = at (none _ _ (none_opened q _ old.from.talks new.from.talks opened) refl (ap (λ f. Err (fault_by job new.from.faults f)) is))

    by : (x : Result Opened ExchangeFault) → OpensAnswer step.Blob q old.from.talks new.from.talks x → ◌⊎◌ (◌≡◌ {A = Result Opened RegistryFault} (Err fault) (Err opening.Memory)) (◌≡◌ {A = Result Opened RegistryFault} (Err fault) (blob_row x))
        → FailsBy (source.Registry r) job (fault_by job new.from.faults fault) old new
    by x opened (inl is) = memory_free (source.Registry r) job old new _ (ap (fault_by job new.from.faults) (err_same {A = Opened} fault opening.Memory is))
    by (Ok x) opened (inr is) = by_status x opened (x.status == 200) refl is
    by (Err f) opened (inr is) = by_fault f opened (err_same {A = Opened} fault (fault_of f) is)

-- ---- the next piece

opens_on : (r : Request) (h : ResponseHead) (seen added : List ℕ) (ended : Bool) (c : Conversation) → Opens r [] h seen c → Opens r [] h (seen ++ added) (with_received added ended c)
opens_on r h seen added ended c o = record { asks = asks_on r [] c added ended o.asks; whole = o.whole; head = final-append most_interim c.received added h seen o.head; plain = o.plain }

-- what is a front of each body is so still when more came
front_on : (f : Framing) (given seen added : List ℕ) → IsFront f given seen → IsFront f given (seen ++ added)
front_on f given seen added i = record { front = λ limit more body ended b. i.front limit (added ++ more) body ended (subst (λ (w : List ℕ). FramedBody f limit body w ended) (append_assoc seen added more) b) }

spelled : (r : Request) (h : ResponseHead) (seen : List ℕ) (c : Conversation) (limit : ℕ) (o : Outcome) → Opens r [] h seen c → Spells (is_get r) limit o (c.received ++ []) c.ended → Comes r [] limit o c
spelled r h seen c limit o opens s = record { asks = opens.asks; whole = inl opens.whole; spells = subst (λ (w : List ℕ). Spells (is_get r) limit o w c.ended) (append_none c.received) s }

body_comes : (r : Request) (h : ResponseHead) (seen given : List ℕ) (c : Conversation) (limit : ℕ) → Opens r [] h seen c → FramedBody (body_framing (is_get r) h) limit given seen c.ended → Comes r [] limit (answer (answer_with h given)) c
body_comes r h seen given c limit opens b =
    spelled r h seen c limit _ opens (spells_body r [] h seen c limit [] given c.ended opens (subst (λ (w : List ℕ). FramedBody (body_framing (is_get r) h) limit given w c.ended) (sym (append_none seen)) b))

none_comes : (r : Request) (h : ResponseHead) (seen given : List ℕ) (c : Conversation) (o : Outcome) → Opens r [] h seen c → IsNoBody (body_framing (is_get r) h) given o seen c.ended → (limit : ℕ) → length given ≤ limit → Comes r [] limit o c
none_comes r h seen given c o opens n limit le =
    let m : IsNoBody (body_framing (is_get r) h) given o (seen ++ []) c.ended = subst (λ (w : List ℕ). IsNoBody (body_framing (is_get r) h) given o w c.ended) (sym (append_none seen)) n in
    spelled r h seen c limit o opens (spells_no_body r [] h seen c limit [] c.ended o opens (m.none limit le))

module _ (r : Reference) (job : Job) (a b : Opened) (count : ℕ) (given into : List ℕ) (entry old new : LaneTold) (has : HasGiven (source.Registry r) job (blob.Answer a count) entry old given) (on : OnSource old new) (le : old.from.faults ≤ new.from.faults) where
  abbrev q : Request
  q = request_of r job

  reads : IsReading r job a given entry old
  unfolding IsReadAt
  reads = has.reads

  -- the lane went on, if its conversations did
  next_later : Told AreMore reads.start.from.talks new.from.talks → IsLater entry new
  next_later talks = record {
    from = record {
      talks = told_then AreMore AreMore AreMore more_then entry.from.talks reads.start.from.talks new.from.talks reads.before.from.talks talks;
      faults = (let x = has.later.from.faults in omega (arith, x, le));
    };
    to = subst (λ (w : WireTold). IsLaterWire entry.to w) (sym on.to) has.later.to;
    files = subst (λ (f : FilesTold). IsLaterFiles entry.files f) (sym on.files) has.later.files;
    number = on.number ∙ has.later.number;
  }

  between : (P : Conversations → Conversations → Type 0) → P reads.start.from.talks new.from.talks → Within (λ x y. P x.from.talks y.from.talks) entry new
  between P p = record { first = reads.start; last = new; before = reads.before; is = p; after = later_same new }

  module _ (n : ℕ) (p : GivesPiece old.from.talks new.from.talks a b into (Ok n)) (ready : IsReady b.reader new.from.is_open) (blames : b.reader.failed ≡ Some short.Wire → Rose old.from.faults new.from.faults ⊎ (a.reader.failed ≡ Some short.Wire)) (within : n ≤ length into) where
    c : Conversation
    c = with_received p.added p.ended reads.leads.talk

    i : IsReadTo a given reads.leads.last reads.leads.talk
    i = reads.leads.is

    front_now : IsFront (body_framing (is_get reads.leads.last) i.h) (given ++ take n into) (i.seen ++ p.added)
    front_now = (p.piece (body_framing (is_get reads.leads.last) i.h) given i.seen reads.leads.talk.ended i.streams).front

    whole_now : take n into ≡ [] → IsBody (body_framing (is_get reads.leads.last) i.h) given (i.seen ++ p.added) (p.ended || reads.leads.talk.ended)
    whole_now = (p.piece (body_framing (is_get reads.leads.last) i.h) given i.seen reads.leads.talk.ended i.streams).whole

    opens : Opens reads.leads.last [] i.h (i.seen ++ p.added) c
    unfolding c
    opens = opens_on reads.leads.last i.h i.seen p.added p.ended reads.leads.talk i.opens

    went_on : (P : Request → Conversation → Type 0) → P reads.leads.last c → LeadsTo q P reads.start.from.talks new.from.talks
    unfolding c
    went_on P is = record {
      count = reads.leads.count;
      few = reads.leads.few;
      hops = reads.leads.hops;
      last = reads.leads.last;
      follows = reads.leads.follows;
      talk = c;
      told = gains_on-last reads.leads.hops reads.leads.talk (with_received p.added p.ended) reads.start.from.talks old.from.talks new.from.talks reads.leads.told p.told;
      is = is;
    }

    reads_on : IsReadTo b (given ++ take n into) reads.leads.last c
    unfolding c
    reads_on = record {
      h = i.h;
      seen = i.seen ++ p.added;
      opens = opens;
      status = i.status;
      front = front_now;
      streams = p.streams (body_framing (is_get reads.leads.last) i.h) given i.seen reads.leads.talk.ended i.streams;
      noted = shown_more reads.leads.talk.received p.added a.reader.held.first b.reader.held.first i.noted p.noted;
      step_is = p.same.1 ∙ i.step_is;
    }

    -- the wire is blamed only where its count rose since the answer was opened
    still_blames : b.reader.failed ≡ Some short.Wire → Rose reads.start.from.faults new.from.faults
    still_blames failed = by (blames failed)
      where
        by : Rose old.from.faults new.from.faults ⊎ (a.reader.failed ≡ Some short.Wire) → Rose reads.start.from.faults new.from.faults
        by (inl r) = (let l = reads.counts in omega (arith, l, r))
        by (inr was) = (let r = reads.blames was in omega (arith, r, le))

    pub piece_given : (next : ℕ) → next ≡ count + n → GivesMore (source.Registry r) job (blob.Answer b next) entry new given into n
    unfolding IsReadAt GaveFront GaveAll c
    piece_given next more = record {
      has = record {
        reads = record { start = reads.start; before = reads.before; leads = went_on (IsReadTo b (given ++ take n into)) reads_on; counts = (let l = reads.counts in omega (arith, l, le)); ready = ready; blames = still_blames };
        count = more ∙ ap (λ k. k + n) has.count ∙ ap (λ k. length given + k) (sym (length-take-le n into within)) ∙ sym (length-append given (take n into));
        front = between (LeadsTo q (BeginsWith (given ++ take n into))) (went_on (BeginsWith (given ++ take n into)) (begins_of b (given ++ take n into) reads.leads.last c reads_on));
        later = next_later (leads_more q (IsReadTo b (given ++ take n into)) reads.start.from.talks new.from.talks (went_on (IsReadTo b (given ++ take n into)) reads_on));
      };
      last = λ zero. between (LeadsTo q (HasBody given)) (went_on (HasBody given) (whole (whole_now (ap (λ k. take k into) zero))));
    }
      where
        whole : IsBody (body_framing (is_get reads.leads.last) i.h) given (i.seen ++ p.added) (p.ended || reads.leads.talk.ended) → HasBody given reads.leads.last c
        whole body = record { h = i.h; status = i.status; comes = λ limit few. body_comes reads.leads.last i.h (i.seen ++ p.added) given c limit opens (body.whole limit few) }

  module _ (fault : ExchangeFault) (p : GivesPiece old.from.talks new.from.talks a b into (Err fault)) (rose : fault ≡ long.Wire → Rose old.from.faults new.from.faults ⊎ (a.reader.failed ≡ Some short.Wire)) where
    d : Conversation
    d = with_received p.added p.ended reads.leads.talk

    j : IsReadTo a given reads.leads.last reads.leads.talk
    j = reads.leads.is

    opens_still : Opens reads.leads.last [] j.h (j.seen ++ p.added) d
    unfolding d
    opens_still = opens_on reads.leads.last j.h j.seen p.added p.ended reads.leads.talk j.opens

    told_still : Gains (reads.leads.hops ++ d ∷ []) reads.start.from.talks new.from.talks
    unfolding d
    told_still = gains_on-last reads.leads.hops reads.leads.talk (with_received p.added p.ended) reads.start.from.talks old.from.talks new.from.talks reads.leads.told p.told

    says : Says b.step b.reader.held.first (λ o. IsNoBody (body_framing (is_get reads.leads.last) j.h) given o (j.seen ++ p.added) (p.ended || reads.leads.talk.ended)) fault
    says = p.piece (body_framing (is_get reads.leads.last) j.h) given j.seen reads.leads.talk.ended j.streams

    first_is : b.reader.held.first ≡ shown d.received
    unfolding d
    first_is = shown_more reads.leads.talk.received p.added a.reader.held.first b.reader.held.first j.noted p.noted

    none_of : (o : Outcome) → IsNoBody (body_framing (is_get reads.leads.last) j.h) given o (j.seen ++ p.added) (p.ended || reads.leads.talk.ended) → (limit : ℕ) → length given ≤ limit → Comes reads.leads.last [] limit o d
    unfolding d
    none_of o says limit few = none_comes reads.leads.last j.h (j.seen ++ p.added) given d o opens_still says limit few

    ends_by : (f : ExchangeFault) → Says b.step b.reader.held.first (λ o. IsNoBody (body_framing (is_get reads.leads.last) j.h) given o (j.seen ++ p.added) (p.ended || reads.leads.talk.ended)) f
        → (limit : ℕ) → length given ≤ limit → EndsBy step.Blob reads.leads.last [] limit (most_redirects - reads.leads.count) (d ∷ []) f
    ends_by (long.BadAnswer s w) h limit few = (h.0 ∙ p.same.1 ∙ j.step_is, (d, refl, inl (h.1 ∙ first_is, none_of _ h.2 limit few)))
    ends_by long.Wire h limit few = (d, refl, none_of _ h limit few)
    ends_by (long.HeadTooLong n) h limit few = (d, refl, none_of _ h limit few)
    ends_by (long.HeadersTooMany n) h limit few = (d, refl, none_of _ h limit few)
    ends_by (long.BodyTooLong n) h limit few = (d, refl, none_of _ h limit few)
    ends_by long.Encoded h limit few = (d, refl, none_of _ h limit few)
    ends_by long.TooManyRedirects h limit few = absurd h
    ends_by (long.TlsRequired host) h limit few = absurd h
    ends_by long.Memory h limit few = tt

    gives_none : GivesNone step.Blob q fault reads.start.from.talks new.from.talks
    gives_none = record {
      count = reads.leads.count;
      few = reads.leads.few;
      hops = reads.leads.hops;
      last = reads.leads.last;
      follows = reads.leads.follows;
      gained = d ∷ [];
      told = told_still;
      given = length given;
      why = ends_by fault says;
    }

    begins_still : LeadsTo q (BeginsWith given) reads.start.from.talks new.from.talks
    begins_still = record {
      count = reads.leads.count;
      few = reads.leads.few;
      hops = reads.leads.hops;
      last = reads.leads.last;
      follows = reads.leads.follows;
      talk = d;
      told = told_still;
      is = record { h = j.h; seen = j.seen ++ p.added; opens = opens_still; status = j.status; front = front_on (body_framing (is_get reads.leads.last) j.h) given j.seen p.added j.front };
    }

    rose_now : fault ≡ long.Wire → Rose entry.from.faults new.from.faults
    rose_now is = by (rose is)
      where
        by : Rose old.from.faults new.from.faults ⊎ (a.reader.failed ≡ Some short.Wire) → Rose entry.from.faults new.from.faults
        by (inl r) = (let x = has.later.from.faults in omega (arith, x, r))
        by (inr failed) = (let x = reads.before.from.faults in let r = reads.blames failed in omega (arith, x, r, le))

    fails_so : (f : ExchangeFault) → fault ≡ f → FailsBy (source.Registry r) job (exchange_by new.from.faults f) entry new
    unfolding BlobEnds
    fails_so long.Memory is = inl (record { free = refl; blames = tt })
    fails_so long.Wire is = wire_free (source.Registry r) job entry new (rose_now is)
    fails_so (long.BadAnswer s w) is = inr (between (λ x y. BlobAt q job x y (Err (why.BadAnswer s w))) (none fault _ gives_none (ap cause_of is) refl))
    fails_so (long.HeadTooLong n) is = inr (between (λ x y. BlobAt q job x y _) (none fault _ gives_none (ap cause_of is) refl))
    fails_so (long.HeadersTooMany n) is = inr (between (λ x y. BlobAt q job x y _) (none fault _ gives_none (ap cause_of is) refl))
    fails_so (long.BodyTooLong n) is = inr (between (λ x y. BlobAt q job x y _) (none fault _ gives_none (ap cause_of is) refl))
    fails_so long.Encoded is = inr (between (λ x y. BlobAt q job x y _) (none fault _ gives_none (ap cause_of is) refl))
    fails_so long.TooManyRedirects is = inr (between (λ x y. BlobAt q job x y _) (none fault _ gives_none (ap cause_of is) refl))
    fails_so (long.TlsRequired host) is = inr (between (λ x y. BlobAt q job x y _) (none fault _ gives_none (ap cause_of is) refl))

    pub piece_stopped : is_mismatch (exchange_by new.from.faults fault) ≡ false → GivesNoMore (source.Registry r) job (exchange_by new.from.faults fault) entry new given
    unfolding GaveFront
    piece_stopped unjudged = record {
      failed = fails_so fault refl;
      unjudged = unjudged;
      front = between (LeadsTo q (BeginsWith given)) begins_still;
      later = next_later (leads_more q (BeginsWith given) reads.start.from.talks new.from.talks begins_still);
    }

-- ---- whichever source it is

pub next_given : (s : Source) (job : Job) (a b : Opened) (count next n : ℕ) (given into : List ℕ) (entry old new : LaneTold) → HasGiven s job (blob.Answer a count) entry old given → OnSource old new → old.from.faults ≤ new.from.faults
    → GivesPiece old.from.talks new.from.talks a b into (Ok n) → IsReady b.reader new.from.is_open → (b.reader.failed ≡ Some short.Wire → Rose old.from.faults new.from.faults ⊎ (a.reader.failed ≡ Some short.Wire)) → n ≤ length into → next ≡ count + n → GivesMore s job (blob.Answer b next) entry new given into n
unfolding IsReadAt
next_given (source.Folder path) job a b count next n given into entry old new has on le p ready blames within more = absurd (never has.reads)
  where
    never : IsReadAt (source.Folder path) job (blob.Answer a count) entry old given → ⊥
    never r = r
next_given (source.Registry r) job a b count next n given into entry old new has on le p ready blames within more = piece_given r job a b count given into entry old new has on le n p ready blames within next more

pub next_stopped : (s : Source) (job : Job) (a b : Opened) (count : ℕ) (given into : List ℕ) (entry old new : LaneTold) (fault : ExchangeFault) → HasGiven s job (blob.Answer a count) entry old given → OnSource old new → old.from.faults ≤ new.from.faults
    → GivesPiece old.from.talks new.from.talks a b into (Err fault) → (fault ≡ long.Wire → Rose old.from.faults new.from.faults ⊎ (a.reader.failed ≡ Some short.Wire)) → is_mismatch (exchange_by new.from.faults fault) ≡ false
    → GivesNoMore s job (exchange_by new.from.faults fault) entry new given
unfolding IsReadAt
next_stopped (source.Folder path) job a b count given into entry old new fault has on le p rose unjudged = absurd (never has.reads)
  where
    never : IsReadAt (source.Folder path) job (blob.Answer a count) entry old given → ⊥
    never r = r
next_stopped (source.Registry r) job a b count given into entry old new fault has on le p rose unjudged = piece_stopped r job a b count given into entry old new has on le fault p rose unjudged

-- by the cause that is told
pub next_failed : (s : Source) (job : Job) (a b : Opened) (count : ℕ) (given into : List ℕ) (entry old new : LaneTold) (fault : ExchangeFault) (e : Cause) → HasGiven s job (blob.Answer a count) entry old given → OnSource old new → old.from.faults ≤ new.from.faults
    → GivesPiece old.from.talks new.from.talks a b into (Err fault) → (fault ≡ long.Wire → Rose old.from.faults new.from.faults ⊎ (a.reader.failed ≡ Some short.Wire)) → e ≡ exchange_by new.from.faults fault → is_mismatch e ≡ false
    → GivesNoMore s job e entry new given
next_failed s job a b count given into entry old new fault e has on le p rose is unjudged =
    subst (λ x. GivesNoMore s job x entry new given) (sym is) (next_stopped s job a b count given into entry old new fault has on le p rose (subst (λ x. is_mismatch x ≡ false) is unjudged))

-- ---- of the registry that was made of a reference

pub opened_by : (r : Reference) (made : Registry) (job : Job) (a : Opened) (old new : LaneTold) → made ≡ registry_of r → OnSource old new → OpensBlob (blob_request made job.digest) old.from.talks new.from.talks (Ok a)
    → CountsStep {A = Opened} old.from.faults new.from.faults (Ok a) → a.reader.failed ≡ None → new.from.is_open ≡ true → HasGiven (source.Registry r) job (blob.Answer a 0) old new []
opened_by r made job a old new is on opens counts alive is_open =
    opened_given r job a old new on (subst (λ (m : Registry). OpensBlob (blob_request m job.digest) old.from.talks new.from.talks (Ok a)) is opens) counts alive is_open

pub fails_by : (r : Reference) (made : Registry) (job : Job) (fault : RegistryFault) (e : Cause) (old new : LaneTold) → made ≡ registry_of r → OpensBlob (blob_request made job.digest) old.from.talks new.from.talks (Err fault)
    → CountsStep {A = Opened} old.from.faults new.from.faults (Err fault) → e ≡ fault_by job new.from.faults fault → FailsBy (source.Registry r) job e old new
fails_by r made job fault e old new is opens counts told =
    subst (λ x. FailsBy (source.Registry r) job x old new) (sym told) (open_fails r job fault old new (subst (λ (m : Registry). OpensBlob (blob_request m job.digest) old.from.talks new.from.talks (Err fault)) is opens) counts)
