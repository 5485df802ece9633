use Rattle.std.proofs.Common.{◌≡◌, ap, sym, ◌∙◌, false}
use Rattle.std.specs.Result.{is_err}
use Rattle.call_trace.specs.ChangeReading.{id_at}
use Rattle.call_trace.proofs.Pushed.{pushed, still_bare}
use Rattle.call_trace.proofs.Listing.{goes_on, stops, ends, list_ok, list_bad}
use Rattle.call_trace.proofs.change.ids.Goals as goal

pub returns-in-Err : goal.returns-in-Err
returns-in-Err c =
    rw c.in-Some.is (list_bad id_at _ _ c.in-Err.bad (rw c.deref-value-items.ensures.value c.in-Some-as_array.ensures)
    (stops id_at _ _ _ _ _ c.in-Err.bad c.loop-value.invariant.listing c.value-item.is c.loop-value-test.true c.in-Err.ensures))

pub loop-value-preserved : goal.loop-value-preserved
loop-value-preserved c =
    let ok : is_err c.push.result ≡ false = sym c.is_err.ensures.value ∙ c.if-is_err.false in
    let grown = pushed c.push.result _ c.push.ensures.ok ok in
    record {
      listing = goes_on id_at _ _ _ _ _ _ c.in-Ok.next c.loop-value.invariant.listing c.value-item.is c.loop-value-test.true c.in-Ok.ensures (ap (λ l. l.items) grown);
      settled = still_bare c.push.new.self c.loop-value.list c.in-Ok.next grown c.loop-value.invariant.settled;
    }

pub returns : goal.returns
returns c =
    rw c.in-Some.is (list_ok id_at _ _ c.loop-value.list (rw c.deref-value-items.ensures.value c.in-Some-as_array.ensures)
    (ends id_at _ _ _ _ c.loop-value.invariant.listing c.loop-value-test.false) c.loop-value.invariant.settled)
