-- What a number and the end of a report make of reports under way.
use Rattle.std.proofs.Common.{◌≡◌, ℕ, ℤ, pos, ◌+◌, ◌-◌, ◌*◌, ◌/◌, ◌%◌, ◌≤◌, ◌<◌, true, false, nat_le, nat_lt, Option, Some, None, List, [], ◌∷◌, ◌++◌, length, map, refl, sym, ◌∙◌, ap, subst, arith, length-append}
use Rattle.std.specs.Option.{unwrap_or}
use Rattle.std.proofs.lemmas.Bool.Decides.{nat_tests}
use Rattle.std.proofs.lemmas.List.{map-append}
use Rattle.std.proofs.lemmas.List.Sums.{fold-append}
use Rattle.gcc_units.specs.Listed.{Listed}
use Rattle.gcc_units.specs.declared.limits.TheConstants.{MOST_STATUSES}
use Rattle.twcc_report.specs.Spelling.{Feedback, view}
use Rattle.twcc_report.specs.declared.report.Report.{Report}
use Rattle.twcc_report.specs.declared.report.Status.{Status}
use Rattle.twcc_report.specs.declared.report.Status.TheVariants.{NotReceived}
use Rattle.link_path.specs.declared.TheConstants.{GREATEST_DELTA, RECEIVER, MEDIA}
use Rattle.link_path.specs.declared.building.Building.{Building}
use Rattle.link_path.specs.Division.{Run, Division, Told, begins, placed, divided, first_time, last_time, time_after, numbers_in, delta_status, statuses, report_of, reports_on}
use Rattle.link_path.specs.Building.{IsAt, IsBuilt}
use Rattle.link_path.proofs.Runs.{first-missing, first-received, last-push, statuses-push, last-from-first, statuses-length, reports-push, numbers-push, divided-push}

-- ---- whether a report ends

pub begun-length : (b : Building) (told : Told) (ended : List Run) (run : Run) → IsAt b told ended run → length b.statuses.items ≡ length run
begun-length b told ended run h = ap length (h.begun 0) ∙ statuses-length (256 * (first_time 0 run / 256)) run

full-test : (n : ℕ) → MOST_STATUSES ≤ n → nat_le MOST_STATUSES n ≡ true
full-test n h = grind (arith, nat_tests)

short-test : (n : ℕ) → n < MOST_STATUSES → nat_le MOST_STATUSES n ≡ false
short-test n h = grind (arith, nat_tests)

pub full-begins : (run : Run) (there : Option ℕ) → MOST_STATUSES ≤ length run → true ≡ begins run there
full-begins run there h = let e : nat_le MOST_STATUSES (length run) ≡ true = full-test (length run) h in rw e refl

pub missing-stays : (run : Run) → length run < MOST_STATUSES → false ≡ begins run None
missing-stays run h = let e : nat_le MOST_STATUSES (length run) ≡ false = short-test (length run) h in rw e refl

pub received-begins : (run : Run) (time : ℕ) → length run < MOST_STATUSES → nat_lt GREATEST_DELTA (time - last_time time run) ≡ begins run (Some time)
received-begins run time h = let e : nat_le MOST_STATUSES (length run) ≡ false = short-test (length run) h in rw e refl

-- ---- a number

pub missing-at : (b : Building) (more : Listed Status) (told : Told) (ended : List Run) (run : Run) → IsAt b told ended run
    → more.items ≡ b.statuses.items ++ NotReceived ∷ []
    → IsAt (record b { statuses = more }) told ended (run ++ None ∷ [])
missing-at b more told ended run h more_is =
    record {
      done = h.done;
      begun = λ time.
          more_is
          ∙ ap (λ (xs : List Status). xs ++ NotReceived ∷ []) (h.begun time)
          ∙ sym (statuses-push (256 * (first_time time run / 256)) run None)
          ∙ ap (λ t. statuses (256 * (t / 256)) (run ++ None ∷ [])) (sym (first-missing time run));
      first = λ time. h.first time ∙ sym (first-missing time run);
      last = λ time. h.last time ∙ sym (last-push time run None);
      before = h.before;
      base = h.base;
      feedback = h.feedback;
    }

pub received-at : (b : Building) (more : Listed Status) (first delta time : ℕ) (told : Told) (ended : List Run) (run : Run) → IsAt b told ended run
    → more.items ≡ b.statuses.items ++ delta_status delta ∷ [] → delta ≡ time - unwrap_or b.last (256 * (time / 256)) → first ≡ unwrap_or b.first time
    → IsAt (record b { statuses = more; first = Some first; last = Some time }) told ended (run ++ Some time ∷ [])
received-at b more first delta time told ended run h more_is delta_is first_is =
    let counted : delta ≡ time - last_time (256 * (first_time time run / 256)) run =
    delta_is ∙ ap (λ l. time - l) (h.last (256 * (time / 256)) ∙ sym (last-from-first run time)) in
    record {
      done = h.done;
      begun = λ t.
          more_is
          ∙ ap (λ (xs : List Status). xs ++ delta_status delta ∷ []) (h.begun time)
          ∙ ap (λ d. statuses (256 * (first_time time run / 256)) run ++ delta_status d ∷ []) counted
          ∙ sym (statuses-push (256 * (first_time time run / 256)) run (Some time))
          ∙ ap (λ u. statuses (256 * (u / 256)) (run ++ Some time ∷ [])) (sym (first-received t run time));
      first = λ t. first_is ∙ h.first time ∙ sym (first-received t run time);
      last = λ t. sym (last-push t run (Some time));
      before = h.before;
      base = h.base;
      feedback = h.feedback;
    }

-- ---- the end of a report

base-by : (base all count length_ : ℕ) → base ≡ all % 65536 → count ≡ length_ → (base + count % 65536) % 65536 ≡ (all + length_) % 65536
base-by base all count length_ h k = omega arith

feedback-by : (feedback all : ℕ) → feedback ≡ all % 256 → (feedback + 1) % 256 ≡ (all + 1) % 256
feedback-by feedback all h = omega arith

pub closed-at : (b : Building) (reports : Listed Report) (fresh : Listed Status) (reference : ℤ) (before count : ℕ) (told : Told) (ended : List Run) (run : Run)
    → IsAt b told ended run
    → reports.items ≡ b.reports.items ++ record { sender = RECEIVER; media = MEDIA; base = b.base; reference = reference; feedback = b.feedback; statuses = b.statuses } ∷ []
    → fresh.items ≡ [] → reference ≡ pos (unwrap_or b.first b.before / 256) → before ≡ unwrap_or b.last b.before → count ≡ length b.statuses.items
    → IsAt (record { reports = reports; statuses = fresh; first = None; last = None; before = before; base = (b.base + count % 65536) % 65536; feedback = (b.feedback + 1) % 256 }) told (ended ++ run ∷ []) []
closed-at b reports fresh reference before count told ended run h reports_is fresh_is reference_is before_is count_is =
    let report : Report = record { sender = RECEIVER; media = MEDIA; base = b.base; reference = reference; feedback = b.feedback; statuses = b.statuses } in
    let same : view report ≡ report_of told ended run = rw (reference_is, h.base, h.feedback, h.first b.before, h.begun b.before, h.before) refl in
    record {
      done =
          ap (λ (rs : List Report). map view rs) reports_is
          ∙ map-append view b.reports.items (report ∷ [])
          ∙ ap (λ (fs : List Feedback). fs ++ view report ∷ []) h.done
          ∙ ap (λ (f : Feedback). reports_on told ended ++ f ∷ []) same
          ∙ sym (reports-push told ended run);
      begun = λ time. fresh_is;
      first = λ time. refl;
      last = λ time. refl;
      before =
          before_is
          ∙ h.last b.before
          ∙ ap (λ t. last_time t run) h.before
          ∙ sym (ap (last_time told.last) (numbers-push ended run) ∙ fold-append time_after told.last (numbers_in ended) run);
      base =
          base-by b.base (told.numbers + length (numbers_in ended)) count (length run) h.base (count_is ∙ begun-length b told ended run h)
          ∙ ap (λ n. n % 65536) (omega (arith, ap length (numbers-push ended run), length-append (numbers_in ended) run));
      feedback =
          feedback-by b.feedback (told.reports + length ended) h.feedback
          ∙ ap (λ n. n % 256) (omega (arith, length-append ended (run ∷ [])));
    }

-- ---- the division

pub put-begins : (new : Building) (told : Told) (numbers : List (Option ℕ)) (there : Option ℕ) → begins (divided numbers).last there ≡ true
    → IsAt new told ((divided numbers).ended ++ (divided numbers).last ∷ []) (there ∷ []) → IsBuilt new told (numbers ++ there ∷ [])
put-begins new told numbers there e h =
    let placed_is : placed (divided numbers) there ≡ record { ended = (divided numbers).ended ++ (divided numbers).last ∷ []; last = there ∷ [] } = rw e refl in
    let P : Division → Type 0 = λ d. IsAt new told d.ended d.last in
    subst P (sym (divided-push numbers there ∙ placed_is)) h

pub put-stays : (new : Building) (told : Told) (numbers : List (Option ℕ)) (there : Option ℕ) → begins (divided numbers).last there ≡ false
    → IsAt new told (divided numbers).ended ((divided numbers).last ++ there ∷ []) → IsBuilt new told (numbers ++ there ∷ [])
put-stays new told numbers there e h =
    let placed_is : placed (divided numbers) there ≡ record { ended = (divided numbers).ended; last = (divided numbers).last ++ there ∷ [] } = rw e refl in
    let P : Division → Type 0 = λ d. IsAt new told d.ended d.last in
    subst P (sym (divided-push numbers there ∙ placed_is)) h
