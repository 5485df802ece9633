use Rattle.std.proofs.Common.{sym, ◌∙◌, [], ◌∷◌, ◌++◌}
use Rattle.link_path.specs.Division.{divided}
use Rattle.link_path.proofs.Built.{put-begins, put-stays}
use Rattle.link_path.proofs.building.Building.put.Goals as goal

pub returns-then-begins : goal.returns-then-begins
returns-then-begins c told numbers h =
    let ended = (divided numbers).ended in
    let run = (divided numbers).last in
    put-begins c.append.new.self told numbers c.args.there (sym (c.begins.ensures.value told ended run h) ∙ c.if-begins.true)
    (c.in_ok-append.ensures told (ended ++ run ∷ []) [] (c.in_ok-close.ensures.at told ended run h))

pub returns : goal.returns
returns c told numbers h =
    let ended = (divided numbers).ended in
    let run = (divided numbers).last in
    put-stays c.append-2.new.self told numbers c.args.there (sym (c.begins.ensures.value told ended run h) ∙ c.if-begins.false)
    (c.in_ok-append-2.ensures told ended run h)
