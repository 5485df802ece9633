-- What an actor has done after a line more.
use Rattle.std.proofs.Common.{◌≡◌, ◌≢◌, ℕ, ◌+◌, Bool, true, false, ◌&&◌, eqb, cond, eq-eqb, ne_eqb, List, [], ◌∷◌, ◌++◌, length, length-append, map, refl, sym, ◌∙◌, ap, subst, append-nil, arith}
use Rattle.std.proofs.lemmas.List.{map-append, length-map}
use Rattle.gcc_units.specs.declared.limits.TheConstants.{MOST_ENTRIES}
use Rattle.send_core.specs.declared.call.Call.{Call}
use Rattle.send_core.specs.declared.call.Answer.{Answer}
use Rattle.send_core.specs.Reply.{target}
use Rattle.turn_lock.specs.Rule.{by, BeginsWith}
use Rattle.turn_lock.specs.Seats.{SeatIs}
use Rattle.shared_sender.specs.Served.{Answered, entry_of, journal_of, Answers}
use Rattle.call_trace.specs.declared.trace.Action.TheVariants.{Ask}
use Rattle.call_trace.specs.declared.trace.Line.{Line}
use Rattle.call_trace.specs.Merge.{asked, call_in, calls_of, calls_by}
use Rattle.reply_text.specs.declared.seen.Seen.{Seen}
use Rattle.reply_text.specs.Legal.{is_look, look_of, AreLegalGlances}
use Rattle.run_top.specs.declared.workers.Stop.{Stop}
use Rattle.run_top.specs.declared.workers.Stop.TheVariants as stop
use Rattle.run_top.specs.Racing.{Works}
use Rattle.run_top.proofs.Growing.{calls_by-by, calls_of-push, looks, asks_nothing, glances_longer, glances_skipped, glances_looked}

abbrev pub ask_of : ℕ → Call → Line
ask_of a call = record { actor = a; action = Ask call }

asks_one : (a : ℕ) (call : Call) → asked a (ask_of a call) ≡ call ∷ []
asks_one a call = ap {B = List Call} (λ b. cond b (call ∷ []) []) (eq-eqb a a refl)

no_more : (b : Bool) → (b && false) ≡ false
no_more true = refl
no_more false = refl

asks_no_look : (a : ℕ) (call : Call) → looks a (ask_of a call) ≡ false
asks_no_look a call = no_more (eqb a a)

journal_begins : (log seen : List Answered) → BeginsWith log seen → (more : _) × (journal_of log ≡ journal_of seen ++ more)
journal_begins log seen b = (journal_of b.0, ap journal_of b.1 ∙ map-append entry_of seen b.0)

-- glances of what was seen are glances of what is seen later
pub glances_later : (log seen : List Answered) (lines : List Line) (a : ℕ) (gs : List Seen) → BeginsWith log seen
    → AreLegalGlances (journal_of seen) lines a gs → AreLegalGlances (journal_of log) lines a gs
glances_later log seen lines a gs b all =
    let j = journal_begins log seen b in
    subst (λ h. AreLegalGlances h lines a gs) (sym j.1) (glances_longer (journal_of seen) j.0 lines a gs all)

calls_seen : (a : ℕ) (seen mine : List Answered) → by a seen ≡ mine → calls_by a (journal_of seen) ≡ map (λ (e : Answered). e.call) mine
calls_seen a seen mine own = calls_by-by a seen ∙ ap (map (λ (e : Answered). e.call)) own

calls_kept : (a : ℕ) (seen mine later : List Answered) → by a seen ≡ mine → by a later ≡ mine → calls_by a (journal_of later) ≡ calls_by a (journal_of seen)
calls_kept a seen mine later own own' = calls_seen a later mine own' ∙ sym (calls_seen a seen mine own)

more_lines : (a : ℕ) (lines : List Line) (line : Line) → length (calls_of a (lines ++ line ∷ [])) ≡ length (calls_of a lines) + length (asked a line)
more_lines a lines line = ap length (calls_of-push a lines line) ∙ length-append (calls_of a lines) (asked a line)

-- its call was answered
pub works_answered : (lines : List Line) (a : ℕ) (call : Call) (seen mine later own : List Answered) (gs : List Seen) (e : Answered)
    → e.call ≡ call → own ≡ mine ++ e ∷ [] → by a later ≡ own → BeginsWith later seen
    → Works lines a seen mine gs stop.No → Works (lines ++ ask_of a call ∷ []) a later own gs stop.No
works_answered lines a call seen mine later own gs e asks grew kept begins works =
    let line : Line = ask_of a call in
    let one = ap length (asks_one a call) in
    let n = more_lines a lines line in
    let m = ap length grew ∙ length-append mine (e ∷ []) in
    record {
      own = kept;
      few = omega (arith, works.few, one, n, m);
      calls = λ running.
          calls_seen a later own kept
          ∙ (ap (map (λ (d : Answered). d.call)) grew
          ∙ (map-append (λ (d : Answered). d.call) mine (e ∷ [])
          ∙ (ap (λ (c : Call). map (λ (d : Answered). d.call) mine ++ c ∷ []) asks
          ∙ (ap (λ (cs : List Call). cs ++ call ∷ []) (sym (calls_seen a seen mine works.own) ∙ works.calls refl)
          ∙ (ap (λ (cs : List Call). calls_of a lines ++ cs) (sym (asks_one a call)) ∙ sym (calls_of-push a lines line))))));
      glances = λ running. glances_skipped (journal_of later) lines line a gs (asks_no_look a call) (glances_later later seen lines a gs begins (works.glances refl));
      unmade = λ full. absurd cc;
      full = λ full. absurd cc;
    }

-- its call was not made, and it stopped
pub works_refused : (lines : List Line) (a : ℕ) (call : Call) (seen mine later : List Answered) (gs : List Seen) (before ended : Stop)
    → by a later ≡ mine → ended ≢ stop.No → (ended ≡ stop.Full → length later ≡ MOST_ENTRIES)
    → Works lines a seen mine gs before → Works (lines ++ ask_of a call ∷ []) a later mine gs ended
works_refused lines a call seen mine later gs before ended kept stops full works =
    let one = ap length (asks_one a call) in
    let n = more_lines a lines (ask_of a call) in
    record {
      own = kept;
      few = omega (arith, works.few, n);
      calls = λ running. absurd (stops running);
      glances = λ running. absurd (stops running);
      unmade = λ is. omega (arith, works.few, one, n);
      full = full;
    }

-- it looked, and sees all calls of its lines so far
pub works_looked : (lines : List Line) (a : ℕ) (seen mine later : List Answered) (gs : List Seen) (g : Seen)
    → by a later ≡ mine → BeginsWith later seen → g.actor ≡ a → g.calls ≡ length later → g.target ≡ target (journal_of later)
    → Works lines a seen mine gs stop.No → Works (lines ++ look_of a ∷ []) a later mine (gs ++ g ∷ []) stop.No
works_looked lines a seen mine later gs g kept begins whose whole target_is works =
    let n = more_lines a lines (look_of a) in
    let calls : calls_by a (journal_of later) ≡ calls_of a lines = calls_kept a seen mine later works.own kept ∙ works.calls refl in
    record {
      own = kept;
      few = omega (arith, works.few, n);
      calls = λ running. calls ∙ (sym (append-nil (calls_of a lines)) ∙ (ap (λ cs. calls_of a lines ++ cs) (sym (asks_nothing a)) ∙ sym (calls_of-push a lines (look_of a))));
      glances = λ running.
          glances_looked (journal_of later) lines a gs g whose (whole ∙ sym (length-map later entry_of)) target_is calls
          (glances_later later seen lines a gs begins (works.glances refl));
      unmade = λ full. absurd cc;
      full = λ full. absurd cc;
    }

-- it stopped, and lets a line be
pub works_stopped : (lines : List Line) (line : Line) (a : ℕ) (seen mine later : List Answered) (gs gs' : List Seen) (before ended : Stop)
    → by a later ≡ mine → ended ≢ stop.No → (ended ≡ stop.Full → (before ≡ stop.Full) × (length later ≡ MOST_ENTRIES))
    → Works lines a seen mine gs before → Works (lines ++ line ∷ []) a later mine gs' ended
works_stopped lines line a seen mine later gs gs' before ended kept stops full works =
    let n = more_lines a lines line in
    record {
      own = kept;
      few = omega (arith, works.few, n);
      calls = λ running. absurd (stops running);
      glances = λ running. absurd (stops running);
      unmade = λ is. let u = works.unmade (full is).0 in omega (arith, u, n);
      full = λ is. (full is).1;
    }

-- a line of another actor
pub works_passed : (lines : List Line) (line : Line) (a : ℕ) (seen mine : List Answered) (gs : List Seen) (ended : Stop)
    → line.actor ≢ a → Works lines a seen mine gs ended → Works (lines ++ line ∷ []) a seen mine gs ended
works_passed lines line a seen mine gs ended other works =
    let apart : eqb line.actor a ≡ false = ne_eqb line.actor a other in
    let none : asked a line ≡ [] = ap {B = List Call} (λ b. cond b (call_in line.action) []) apart in
    let n = more_lines a lines line in
    let same : calls_of a (lines ++ line ∷ []) ≡ calls_of a lines = calls_of-push a lines line ∙ (ap (λ cs. calls_of a lines ++ cs) none ∙ append-nil (calls_of a lines)) in
    record {
      own = works.own;
      few = omega (arith, works.few, n);
      calls = λ running. works.calls running ∙ sym same;
      glances = λ running. glances_skipped (journal_of seen) lines line a gs (ap {B = Bool} (λ b. b && is_look line.action) apart) (works.glances running);
      unmade = λ is. let u = works.unmade is in omega (arith, u, n);
      full = works.full;
    }

-- before its first line
pub works_begun : (a : ℕ) (ended : Stop) → ended ≡ stop.No → Works [] a [] [] [] ended
works_begun a ended running = record {
  own = refl;
  few = omega arith;
  calls = λ is. refl;
  glances = λ is. record { count = refl; each = λ n line at. absurd cc; within = λ k g at. absurd cc; rising = λ j k one two below at_j at_k. absurd cc };
  unmade = λ is. let clash : stop.No ≡ stop.Full = sym running ∙ is in absurd cc;
  full = λ is. let clash : stop.No ≡ stop.Full = sym running ∙ is in absurd cc;
}

-- ---- the same of the worker's seat, before and after

pub answered_on : (lines : List Line) (old new : SeatIs Call Answer) (gs : List Seen) (ended : Stop) (call asks : Call) (answer : Answer)
    → new.number ≡ old.number → by new.number new.seen ≡ new.mine → BeginsWith new.seen old.seen → call ≡ asks → Answers old call answer new → ended ≡ stop.No
    → Works lines old.number old.seen old.mine gs ended → Works (lines ++ ask_of old.number asks ∷ []) new.number new.seen new.mine gs ended
answered_on lines old new gs ended call asks answer same own begins is answered running works =
    let e : Answered = record { caller = old.number; call = call; reply = answer } in
    subst (λ s. Works (lines ++ ask_of old.number asks ∷ []) new.number new.seen new.mine gs s) (sym running)
    (subst (λ i. Works (lines ++ ask_of old.number asks ∷ []) i new.seen new.mine gs stop.No) (sym same)
    (works_answered lines old.number asks old.seen old.mine new.seen new.mine gs e is answered.mine (subst (λ i. by i new.seen ≡ new.mine) same own) begins
    (subst (λ s. Works lines old.number old.seen old.mine gs s) running works)))

pub looked_on : (lines : List Line) (old new : SeatIs Call Answer) (gs more : List Seen) (g : Seen) (ended : Stop)
    → new.number ≡ old.number → by new.number new.seen ≡ new.mine → new.mine ≡ old.mine → BeginsWith new.seen old.seen
    → g.actor ≡ old.number → g.calls ≡ length new.seen → g.target ≡ target (journal_of new.seen) → more ≡ gs ++ g ∷ [] → ended ≡ stop.No
    → Works lines old.number old.seen old.mine gs ended → Works (lines ++ look_of old.number ∷ []) new.number new.seen new.mine more ended
looked_on lines old new gs more g ended same own kept begins whose whole target_is grew running works =
    subst (λ s. Works (lines ++ look_of old.number ∷ []) new.number new.seen new.mine more s) (sym running)
    (subst (λ i. Works (lines ++ look_of old.number ∷ []) i new.seen new.mine more stop.No) (sym same)
    (subst (λ m. Works (lines ++ look_of old.number ∷ []) old.number new.seen m more stop.No) (sym kept)
    (subst (λ l. Works (lines ++ look_of old.number ∷ []) old.number new.seen old.mine l stop.No) (sym grew)
    (works_looked lines old.number old.seen old.mine new.seen gs g (subst (λ i. by i new.seen ≡ old.mine) same (own ∙ kept)) begins whose whole target_is
    (subst (λ s. Works lines old.number old.seen old.mine gs s) running works)))))
