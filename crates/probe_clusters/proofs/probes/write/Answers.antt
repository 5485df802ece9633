use Rattle.std.proofs.Common.{◌≡◌, ℕ, ◌+◌, ◌-◌, Bool, true, false, refl, List, length, count_by, slice_set, get_or, sym, ap, subst, ◌∙◌, arith, length-set}
use mir.Val.{bool_byte}
use Rattle.std.proofs.lemmas.List.Sums.{count_by-le-length}
use Rattle.probe_clusters.specs.declared.cluster.Cluster.{Cluster}
use Rattle.probe_clusters.specs.Cluster.{is_ready}
use Rattle.probe_clusters.specs.Clusters.{AreReady, first_after}
use Rattle.probe_clusters.proofs.Readiness.{bit, count-write, counted-at, known-write}
use Rattle.probe_clusters.proofs.probes.write.Goals as goal

byte_bit : (b : Bool) → bool_byte b ≡ bit b
byte_bit true = refl
byte_bit false = refl

pub overflow_sub-count : goal.overflow_sub-count
overflow_sub-count c =
    let held : List Cluster = c.args.held.now.items in
    let was : c.from.result ≡ bit (is_ready (get_or held c.args.id c.index.result.now)) =
    c.from.ensures ∙ byte_bit c.is_ready-was.result ∙ ap bit (c.is_ready-was.ensures ∙ ap is_ready c.index.ensures) in
    omega (arith, was, counted-at held c.args.id c.index.result.now c.requires.below, c.requires.known.count)

pub overflow_add-count : goal.overflow_add-count
overflow_add-count c =
    let held : List Cluster = c.args.held.now.items in
    let was : c.from.result ≡ bit (is_ready (get_or held c.args.id c.index.result.now)) =
    c.from.ensures ∙ byte_bit c.is_ready-was.result ∙ ap bit (c.is_ready-was.ensures ∙ ap is_ready c.index.ensures) in
    let is : c.from-2.result ≡ bit (is_ready c.args.cluster) = c.from-2.ensures ∙ byte_bit c.is_ready-is.result ∙ ap bit c.is_ready-is.ensures in
    omega (
      arith,
      was,
      is,
      counted-at held c.args.id c.index.result.now c.requires.below,
      count-write held c.args.id c.args.cluster c.index.result.now c.requires.below,
      count_by-le-length is_ready (slice_set held c.args.id c.args.cluster),
      length-set held c.args.id c.args.cluster,
      c.requires.known.count,
      c.requires.few,
    )

pub returns-clause-known : goal.returns-clause-known
returns-clause-known c =
    let held : List Cluster = c.args.held.now.items in
    let count : ℕ = c.args.ready.now.count - c.from.result + c.from-2.result in
    let was : c.from.result ≡ bit (is_ready (get_or held c.args.id c.index.result.now)) =
    c.from.ensures ∙ byte_bit c.is_ready-was.result ∙ ap bit (c.is_ready-was.ensures ∙ ap is_ready c.index.ensures) in
    let is : c.from-2.result ≡ bit (is_ready c.args.cluster) = c.from-2.ensures ∙ byte_bit c.is_ready-is.result ∙ ap bit c.is_ready-is.ensures in
    let counted : count ≡ count_by is_ready (slice_set held c.args.id c.args.cluster) =
    omega (
      arith,
      was,
      is,
      counted-at held c.args.id c.index.result.now c.requires.below,
      count-write held c.args.id c.args.cluster c.index.result.now c.requires.below,
      c.requires.known.count,
    ) in
    let all : c.len.result ≡ length held = omega (arith, c.len.ensures, length-set held c.args.id c.args.cluster) in
    let first : c.first_after.result ≡ first_after count c.args.ready.now.first c.args.id (is_ready c.args.cluster) c.len.result =
    c.first_after.ensures ∙ ap (λ b. first_after count c.args.ready.now.first c.args.id b c.len.result) c.is_ready-is.ensures in
    let P : ℕ → Type 0 = λ f. AreReady (record { count = count; first = f }) (slice_set held c.args.id c.args.cluster) in
    subst P (sym first) (known-write c.args.ready.now held c.args.id count c.len.result c.args.cluster c.requires.known all counted)
