-- One more worker.
use Rattle.std.proofs.Common.{◌≡◌, ℕ, ◌+◌, ◌<◌, Vec, List, [], ◌∷◌, ◌++◌, length, get_or, All, sym, ap, ◌∙◌, subst, length-append, append_assoc, arith}
use Rattle.std.specs.declared.alloc.Global.{Global}
use Rattle.std.proofs.lemmas.List.Elements.{All-push}
use Rattle.std.proofs.lemmas.List.{get_or_append_left}
use Rattle.std.proofs.Math.Seq.{get_or-append_seam}
use mathlib.Core.Logic.{dite}
use native.Mathlib.Decide.{ℕ_discrete}
use Rattle.location_cache.specs.Seats.{TableId, Seated}
use Rattle.digest_reader.specs.declared.job.Job.{Job}
use Rattle.copy_workers.specs.declared.receipt.Outcome.{Outcome}
use Rattle.copy_workers.specs.declared.worker.Worker.{Worker}
use Rattle.copy_workers.specs.Lanes.{Lore, IsUnused}
use Rattle.copy_workers.specs.Works.{IsFresh}
use Rattle.copy_workers.specs.Teams.{IsReady, AreNumbered, HasRoom, AreUnused, Hires, rooms, lanes_of}
use Rattle.copy_workers.proofs.Popping.{all_rest, all_last, rooms_last, lanes_last}

numbered_push : {L J : Type 0} (total : ℕ) (all ws : List (Worker L J)) (w : Worker L J) → all ≡ ws ++ w ∷ [] → AreNumbered total ws → w.number + length ws + 1 ≡ total → AreNumbered total all
numbered_push {L} {J} total all ws w e h last k d lk = dite (ℕ_discrete k (length ws))
    (λ same. subst (λ (x : Worker L J). x.number + k + 1 ≡ total) (sym (ap (λ l. get_or l k d) e ∙ ap (λ n. get_or (ws ++ w ∷ []) n d) same ∙ get_or-append_seam ws w [] d)) (omega arith))
    (λ other. let len = ap length e in let size = length-append ws (w ∷ []) in let lt : k < length ws = omega arith in
    subst (λ (x : Worker L J). x.number + k + 1 ≡ total) (sym (ap (λ l. get_or l k d) e ∙ get_or_append_left ws (w ∷ []) d k lt)) (h k d lt))

module _ {L J O : Type 0} (tells : Lore L O) (desk : TableId) (jobs : List Job) (total : ℕ) where
  pub record Staffs (lanes : List L) (lists : List (Vec Outcome Global)) (workers : List (Worker L J)) : Type 0 where
    pub ready : All (IsReady tells desk jobs) workers
    pub numbered : AreNumbered total workers
    pub unused : AreUnused tells jobs lanes
    pub empty : All (HasRoom (length jobs)) lists
    pub all : length workers + length lanes ≡ total

  pub hire_one : (seat : Seated) (lanes kept : List L) (lists rest : List (Vec Outcome Global)) (workers after : List (Worker L J)) → Hires seat lanes kept lists rest workers after → Staffs lanes lists workers → seat.desk ≡ desk → IsFresh seat.view → Staffs kept rest after
  hire_one seat lanes kept lists rest workers after h s own fresh =
      let w = h.worker in
      let list = all_last (HasRoom (length jobs)) lists rest w.outcomes h.lists_are s.empty in
      let lane = all_last (IsUnused tells jobs) lanes kept w.lane h.lanes_are s.unused in
      let ready : IsReady tells desk jobs w = record {
        own = ap (λ (x : Seated). x.desk) h.seat_is ∙ own;
        room = list.room;
        seat = subst (λ (x : Seated). IsFresh x.view) (sym h.seat_is) fresh;
        empty = list.empty;
        unused = lane;
      } in
      let len = ap length h.lanes_are in
      let size = length-append kept (w.lane ∷ []) in
      let more = ap length h.added in
      let count = length-append workers (w ∷ []) in
      let all = s.all in
      let number = h.number_is in
      record {
        ready = subst (λ l. All (IsReady tells desk jobs) l) (sym h.added) (All-push (IsReady tells desk jobs) workers w s.ready ready);
        numbered = numbered_push total after workers w h.added s.numbered (omega arith);
        unused = all_rest (IsUnused tells jobs) lanes kept w.lane h.lanes_are s.unused;
        empty = all_rest (HasRoom (length jobs)) lists rest w.outcomes h.lists_are s.empty;
        all = omega arith;
      }

module _ {L J : Type 0} (seat : Seated) (lanes kept : List L) (lists rest : List (Vec Outcome Global)) (workers after : List (Worker L J)) (h : Hires seat lanes kept lists rest workers after) where
  pub hired_room : rooms after ≡ rooms workers + seat.view.room
  hired_room = rooms_last after workers h.worker h.added ∙ ap (λ (x : Seated). rooms workers + x.view.room) h.seat_is

  pub hired_lanes : kept ++ lanes_of after ≡ lanes ++ lanes_of workers
  hired_lanes = ap (λ l. kept ++ l) (lanes_last after workers h.worker h.added) ∙ sym (append_assoc kept (h.worker.lane ∷ []) (lanes_of workers)) ∙ ap (λ l. l ++ lanes_of workers) (sym h.lanes_are)

  pub hired_count : (length after ≡ length workers + 1) × (length lanes ≡ length kept + 1) × (length lists ≡ length rest + 1)
  hired_count = (ap length h.added ∙ omega (arith, length-append workers (h.worker ∷ [])), ap length h.lanes_are ∙ omega (arith, length-append kept (h.worker.lane ∷ [])), ap length h.lists_are ∙ omega (arith, length-append rest (h.worker.outcomes ∷ [])))
