-- What one entry more adds to the bytes and the integral of a span.
use Rattle.std.proofs.Common.{◌≡◌, ℕ, pos, ◌+◌, ◌-◌, ◌*◌, ◌^◌, ◌<◌, ◌≤◌, Bool, true, false, cond, nat_lt, max, Some, List, [], ◌∷◌, ◌++◌, length, take, drop, slice_get, fold, refl, sym, ◌∙◌, ap, subst, arith, append_assoc}
use Rattle.std.specs.Prelude.{Result, Ok, Err, Option, None}
use mir.Val.{to_z}
use mir.Syntax.{w128}
use Rattle.std.proofs.Math.Nat.{mul-le-mul_right}
use Rattle.std.proofs.lemmas.Bool.Decides.{nat_tests}
use Rattle.std.proofs.lemmas.Int.{to_z_pos}
use Rattle.std.proofs.lemmas.List.{append-nil}
use Rattle.std.proofs.lemmas.List.Sums.{fold-append}
use Rattle.std.proofs.lemmas.Option.{slice_get_within}
use Rattle.gcc_units.proofs.Walk.{flat_map-push}
use Rattle.gcc_units.specs.declared.limits.TheConstants.{GREATEST_MOMENT, MOST_WAITING, MOST_SENDS}
use Rattle.pace_budget.specs.declared.bucket.TheConstants.{GREATEST_WINDOW}
use Rattle.rtp_wire.specs.declared.packet.WireFault.{WireFault}
use Rattle.rtp_wire.specs.Place.{place_of}
use Rattle.twcc_report.specs.declared.fault.ReportFault.{ReportFault}
use Rattle.twcc_report.specs.Spelling.{Feedback}
use Rattle.twcc_report.specs.Reading.{read_of}
use Rattle.pacer.specs.declared.sent.Sent.{Sent}
use Rattle.pacer.proofs.Sends.{paced-few}
use Rattle.send_core.specs.declared.call.Call.{Call}
use Rattle.send_core.specs.declared.call.Call.TheVariants.{Enqueue, Pace, Report, Configure}
use Rattle.send_core.specs.declared.call.Reply.TheVariants.{Accepted, Refused}
use Rattle.send_core.specs.declared.call.Cause.TheVariants as cause
use Rattle.send_core.specs.declared.call.Entry.{Entry}
use Rattle.send_core.specs.History.{at_of, later, now, accepted, sent, sent_by, waiting}
use Rattle.send_core.specs.Settings.{fault_of}
use Rattle.send_core.specs.Reply.{extension_id, enqueued, reported, configured, standing, terms_at, standing_at, reply_in_time, reply, IsAnswered}
use Rattle.send_laws.specs.Moments.{moment_in}
use Rattle.send_laws.specs.Budgets.{rate_of, integral_of, IsCount}
use Rattle.send_laws.specs.declared.budget.Budget.{Budget}
use Rattle.send_laws.specs.declared.budget.Counted.{Counted}
use Rattle.send_laws.specs.declared.budget.Budget.TheVariants.{Media, Padding}
use Rattle.send_laws.proofs.BudgetCounts.{count-none}
use Rattle.send_laws.proofs.Sending.{answered-reply, answered-sends}
use Rattle.send_laws.proofs.Spanning.{take-next, rejoined, between-none, between-more, answered-at}

-- ---- moments

pub now-next : (h : List Entry) (k : ℕ) (e : Entry) → slice_get h k ≡ Some e → now (take (k + 1) h) ≡ later (now (take k h)) e.call
now-next h k e is = ap now (take-next h k e is) ∙ fold-append (λ m (x : Entry). later m x.call) 0 (take k h) (e ∷ [])

pub later-more : (moment : ℕ) (call : Call) → moment ≤ later moment call
later-more moment call = by_test (nat_lt GREATEST_MOMENT (at_of call))
  where
    by_test : (b : Bool) → moment ≤ cond b moment (max moment (at_of call))
    by_test true = omega arith
    by_test false = omega arith

later-in_range : (moment : ℕ) (call : Call) → moment ≤ GREATEST_MOMENT → later moment call ≤ GREATEST_MOMENT
later-in_range moment call early = by_test (nat_lt GREATEST_MOMENT (at_of call)) refl
  where
    by_test : (b : Bool) → nat_lt GREATEST_MOMENT (at_of call) ≡ b → cond b moment (max moment (at_of call)) ≤ GREATEST_MOMENT
    by_test true is = early
    by_test false is = let within : at_of call ≤ GREATEST_MOMENT = grind (arith, nat_tests) in omega arith

pub now-rises : (h : List Entry) (k : ℕ) (e : Entry) → slice_get h k ≡ Some e → now (take k h) ≤ now (take (k + 1) h)
now-rises h k e is = subst (λ m. now (take k h) ≤ m) (sym (now-next h k e is)) (later-more (now (take k h)) e.call)

in_range-from : (m : ℕ) (h : List Entry) → m ≤ GREATEST_MOMENT → fold (λ m (x : Entry). later m x.call) m h ≤ GREATEST_MOMENT
in_range-from m [] early = early
in_range-from m (e ∷ h) early = in_range-from (later m e.call) h (later-in_range m e.call early)

pub now-in_range : (h : List Entry) → now h ≤ GREATEST_MOMENT
now-in_range h = in_range-from 0 h (omega arith)

in_time-moment : (h : List Entry) (m : ℕ) (c : Call) → moment_in (reply_in_time h m c) ≡ m
in_time-moment h m (Enqueue at class wire) = by_place (place_of (extension_id h) wire.items)
  where
    by_test : (b : Bool) → moment_in (cond b (Accepted m (length (accepted h))) (Refused m (cause.QueueFull MOST_WAITING))) ≡ m
    by_test true = refl
    by_test false = refl

    by_place : (o : Result ℕ WireFault) → moment_in (enqueued h m o) ≡ m
    by_place (Err fault) = refl
    by_place (Ok place) = by_test (nat_lt (length (waiting h)) MOST_WAITING)
in_time-moment h m (Pace at) = refl
in_time-moment h m (Report at bytes) = by_read (read_of bytes.items)
  where
    by_read : (o : Result Feedback ReportFault) → moment_in (reported h m o) ≡ m
    by_read (Err fault) = refl
    by_read (Ok report) = refl
in_time-moment h m (Configure at change) = by_check (fault_of (standing h) change)
  where
    by_check : (o : Option ℕ) → moment_in (configured h m change o) ≡ m
    by_check None = refl
    by_check (Some check) = refl

pub reply-moment : (h : List Entry) (c : Call) → moment_in (reply h c) ≡ later (now h) c
reply-moment h c = by_time (nat_lt GREATEST_MOMENT (at_of c))
  where
    by_time : (b : Bool) → moment_in (cond b (Refused (now h) cause.MomentTooLarge) (reply_in_time h (cond b (now h) (max (now h) (at_of c))) c)) ≡ cond b (now h) (max (now h) (at_of c))
    by_time true = refl
    by_time false = in_time-moment h (max (now h) (at_of c)) c

-- the reply of an entry carries its moment
pub moment-at : (h : List Entry) (k : ℕ) (e : Entry) → slice_get h k ≡ Some e → IsAnswered h → moment_in e.reply ≡ now (take (k + 1) h)
moment-at h k e is legal =
    ap moment_in (answered-reply (take k h) [] e (answered-at h k e is legal)) ∙ (reply-moment (take k h) e.call ∙ sym (now-next h k e is))

-- ---- bytes

pub few-at : (h : List Entry) (k : ℕ) (e : Entry) → slice_get h k ≡ Some e → IsAnswered h → length (sent_by e.reply) ≤ MOST_SENDS
few-at h k e is legal =
    let m : ℕ = later (now (take k h)) e.call in
    answered-sends (λ rs. length rs ≤ MOST_SENDS) (take k h) [] e (answered-at h k e is legal) (omega arith)
    (paced-few MOST_SENDS (terms_at (take k h) m) (standing_at (take k h) m))

-- what was counted from entry i on, before entry k
pub record IsCounted (b : Budget) (h : List Entry) (i k : ℕ) (c : Counted) : Type 0 where
  pub counts : IsCount b (sent (drop i (take k h))) c
  pub few : c.bytes + c.since ≤ 2 ^ 32 * (MOST_SENDS * k)

pub counted-none : (b : Budget) (h : List Entry) (i : ℕ) → IsCounted b h i i (record { bytes = 0; since = 0; last = 0 })
counted-none b h i = record { counts = rw (between-none h i) (count-none b); few = omega arith }

pub counted-more : (b : Budget) (h : List Entry) (i k : ℕ) (c more : Counted) (e : Entry) → i ≤ k → slice_get h k ≡ Some e → IsAnswered h → IsCounted b h i k c
    → ((records : List Sent) → IsCount b records c → IsCount b (records ++ sent_by e.reply) more)
    → more.bytes + more.since ≤ c.bytes + c.since + 2 ^ 32 * length (sent_by e.reply) → IsCounted b h i (k + 1) more
counted-more b h i k c more e le is legal so_far adds little =
    let all : sent (drop i (take (k + 1) h)) ≡ sent (drop i (take k h)) ++ sent_by e.reply =
    ap sent (between-more h i k e le is) ∙ flat_map-push (λ (x : Entry). sent_by x.reply) (drop i (take k h)) e in
    record {
      counts = subst (λ rs. IsCount b rs more) (sym all) (adds (sent (drop i (take k h))) so_far.counts);
      few = omega (arith, so_far.few, little, few-at h k e is legal);
    }

-- ---- integrals

abbrev gain : Budget → List Entry → Entry → ℕ
gain b before e = rate_of b before * (later (now before) e.call - now before)

integral-cons : (b : Budget) (before rest : List Entry) (e : Entry) → integral_of b before (e ∷ rest) ≡ gain b before e + integral_of b (before ++ e ∷ []) rest
integral-cons Media before rest e = refl
integral-cons Padding before rest e = refl

integral-nil : (b : Budget) (before : List Entry) → integral_of b before [] ≡ 0
integral-nil Media before = refl
integral-nil Padding before = refl

integral-push : (b : Budget) (before rest : List Entry) (e : Entry) → integral_of b before (rest ++ e ∷ []) ≡ integral_of b before rest + gain b (before ++ rest) e
integral-push b before [] e =
    integral-cons b before [] e ∙ nothing (gain b before e) (gain b (before ++ []) e) (integral_of b (before ++ e ∷ []) []) (integral_of b before [])
    (ap (λ h. gain b h e) (sym (append-nil before))) (integral-nil b (before ++ e ∷ [])) (integral-nil b before)
  where
    nothing : (g l after before : ℕ) → g ≡ l → after ≡ 0 → before ≡ 0 → g + after ≡ before + l
    nothing g l after before p q r = omega arith
integral-push b before (x ∷ rest) e =
    integral-cons b before (rest ++ e ∷ []) x
    ∙ joined (gain b before x) _ _ (gain b ((before ++ x ∷ []) ++ rest) e) (gain b (before ++ x ∷ rest) e) _ (integral-push b (before ++ x ∷ []) rest e)
    (ap (λ h. gain b h e) (append_assoc before (x ∷ []) rest)) (integral-cons b before rest x)
  where
    joined : (g longer shorter l m all : ℕ) → longer ≡ shorter + l → l ≡ m → all ≡ g + shorter → g + longer ≡ all + m
    joined g longer shorter l m all p q r = omega arith

-- the integral from entry i on, before entry k, with the moment of the entry before
pub record IsIntegral (b : Budget) (h : List Entry) (i k total moment : ℕ) : Type 0 where
  pub total_is : total ≡ integral_of b (take (i + 1) h) (drop (i + 1) (take k h))
  pub moment_is : moment ≡ now (take k h)
  pub little : total ≤ 2 ^ 64 * moment

pub integral-none : (b : Budget) (h : List Entry) (i moment : ℕ) → moment ≡ now (take (i + 1) h) → IsIntegral b h i (i + 1) 0 moment
integral-none b h i moment is =
    record { total_is = rw (between-none h (i + 1)) (sym (integral-nil b (take (i + 1) h))); moment_is = is; little = omega arith }

-- a rate times a time is below this
pub product-little : (rate time : ℕ) → rate < 2 ^ 64 → rate * time ≤ 2 ^ 64 * time
product-little rate time lt = let le : rate ≤ 2 ^ 64 = omega arith in mul-le-mul_right time le

pub integral-more : (b : Budget) (h : List Entry) (i k total moment rate then sum : ℕ) (e : Entry) → i + 1 ≤ k → slice_get h k ≡ Some e
    → IsIntegral b h i k total moment → rate ≡ rate_of b (take k h) → rate < 2 ^ 64 → then ≡ now (take (k + 1) h)
    → sum ≡ total + rate * (then - moment) → IsIntegral b h i (k + 1) sum then
integral-more b h i k total moment rate then sum e le is so_far rate_is lt then_is adds =
    let inside : k < length h = slice_get_within h k e is in
    let joined : take (i + 1) h ++ drop (i + 1) (take k h) ≡ take k h = rejoined h (i + 1) k le (omega arith) in
    let gained : rate * (then - moment) ≡ gain b (take (i + 1) h ++ drop (i + 1) (take k h)) e =
    ap (λ r. r * (then - moment)) rate_is
    ∙ (ap (λ t. rate_of b (take k h) * (t - moment)) (then_is ∙ now-next h k e is)
    ∙ (ap (λ m. rate_of b (take k h) * (later (now (take k h)) e.call - m)) so_far.moment_is
    ∙ ap (λ t. gain b t e) (sym joined))) in
    let order : moment ≤ then = omega (arith, now-rises h k e is, so_far.moment_is, then_is) in
    record {
      total_is = adds ∙ (ap (λ t. t + rate * (then - moment)) so_far.total_is
          ∙ (ap (λ g. integral_of b (take (i + 1) h) (drop (i + 1) (take k h)) + g) gained
          ∙ (sym (integral-push b (take (i + 1) h) (drop (i + 1) (take k h)) e)
          ∙ ap (integral_of b (take (i + 1) h)) (sym (between-more h (i + 1) k e le is)))));
      moment_is = then_is;
      little = omega (arith, so_far.little, adds, product-little rate (then - moment) lt);
    }

-- ---- numbers that become signed

pub widened : (n m : ℕ) → n < 2 ^ 127 → n ≡ m → to_z w128 n ≡ pos m
widened n m lt is = to_z_pos w128 n lt ∙ ap pos is

-- a rate in 64 bits over a window in its range
pub product-fits : (rate time : ℕ) → rate < 2 ^ 64 → time ≤ GREATEST_WINDOW → rate * time < 2 ^ 127
product-fits rate time lt le = omega (arith, product-little rate time lt)

pub product-is : (a b c d : ℕ) → a ≡ c → b ≡ d → a * b ≡ c * d
product-is a b c d p q = ap (λ n. n * b) p ∙ ap (λ n. c * n) q
