use Rattle.std.proofs.Common.{◌<◌, ◌^◌, ◌∙◌, ap, subst}
use Rattle.std.specs.List.{All}
use Rattle.serde_json.proofs.Views.{view-Object}
use Rattle.serde_json.specs.Data.{object}
use Rattle.serde_json.specs.View.{members_view}
use Rattle.call_trace.specs.Settings.{IsSmallStream}
use Rattle.call_trace.specs.Written.{whole_json, list_json, stream_json, change_json}
use Rattle.call_trace.proofs.Present.{put_is, built, change_is}
use Rattle.call_trace.proofs.change_value.change_value.Goals as goal

pub returns-clause-written : goal.returns-clause-written
unfolding change_json
returns-clause-written c =
    view-Object c.put-11.new.map
    ∙ ap object (built c.args.change.now _ _ _ _ _ _ _ _ _ _ _ _ (ap members_view c.new-map.ensures.empty)
    (put_is _ _ _ _ _ c.in_ok-put.ensures c.whole.ensures)
    (put_is _ _ _ _ _ c.in_ok-put-2.ensures (c.in_ok-streams.ensures.written ∙ ap (list_json stream_json) c.as_slice.ensures.items))
    (put_is _ _ _ _ _ c.in_ok-put-3.ensures c.whole-2.ensures)
    (put_is _ _ _ _ _ c.in_ok-put-4.ensures (c.in_ok-removed.ensures.written ∙ ap (list_json whole_json) c.as_slice-2.ensures.items))
    (put_is _ _ _ _ _ c.in_ok-put-5.ensures c.whole-3.ensures)
    (put_is _ _ _ _ _ c.in_ok-put-6.ensures c.whole-4.ensures)
    (put_is _ _ _ _ _ c.in_ok-put-7.ensures c.whole-5.ensures)
    (put_is _ _ _ _ _ c.in_ok-put-8.ensures c.truth.ensures)
    (put_is _ _ _ _ _ c.in_ok-put-9.ensures c.whole-6.ensures)
    (put_is _ _ _ _ _ c.in_ok-put-10.ensures c.whole-7.ensures)
    (put_is _ _ _ _ _ c.in_ok-put-11.ensures c.whole-8.ensures))

pub returns-clause-spells : goal.returns-clause-spells
returns-clause-spells c =
    change_is c.args.change.now (subst (All IsSmallStream) c.as_slice.ensures.items c.in_ok-streams.ensures.small)
    (subst (All (λ n. n < 2 ^ 32)) c.as_slice-2.ensures.items c.in_ok-removed.ensures.small)
