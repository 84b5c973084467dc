use Rattle.std.proofs.Common.{◌≡◌, ◌<◌, length, get_or, refl, ◌∙◌, ap, arith}
use Rattle.std.proofs.lemmas.Option.{slice_get-get_or}
use Rattle.pl_daily.specs.declared.term_day.TermCells.{TermCells}
use Rattle.pl_daily.specs.Terms.{assets_at}
use Rattle.pl_daily.proofs.Followed.{start_fills, start_kept, start_taken}
use Rattle.pl_terms.proofs.Graphs.{graph-long}
use Rattle.pl_daily.proofs.starts.take_start.Goals as goal

pub bounds-terms-input : goal.bounds-terms-input
bounds-terms-input c = omega (arith, c.in-Some.ensures.below.0, c.requires.known, c.requires.terms.many, graph-long c.args.lent.now.checked.now.graph)

pub copy_from_slice-requires : goal.copy_from_slice-requires
copy_from_slice-requires c =
    let terms = c.args.terms.now in
    let u = c.in-Some.input.0 in
    let inside : u < length terms = omega (arith, c.in-Some.ensures.below.0, c.requires.known, c.requires.terms.many, graph-long c.args.lent.now.checked.now.graph) in
    let t : TermCells = get_or terms u c.index-terms-input.result in
    let full = c.requires.terms.room.full u t c.in-Some.ensures.below.1 (slice_get-get_or terms u c.index-terms-input.result inside) in
    let down = c.in-Some.ensures.some in
    let from : length c.deref.result.now ≡ assets_at c.args.lent.now = ap length c.deref.ensures.value ∙ full.row in
    let to : length c.args.start.now.row.items ≡ assets_at c.args.lent.now = (c.requires.start down.0 u down.1).row in
    omega (arith, from, to, c.args.start.now.row.ok.0)

pub returns-in-Some : goal.returns-in-Some
returns-in-Some c =
    let l = c.args.lent.now in
    let terms = c.args.terms.now in
    let u = c.in-Some.input.0 in
    let inside : u < length terms = omega (arith, c.in-Some.ensures.below.0, c.requires.known, c.requires.terms.many, graph-long c.args.lent.now.checked.now.graph) in
    let t : TermCells = get_or terms u c.index-terms-input.result in
    let is = slice_get-get_or terms u c.index-terms-input.result inside in
    let down = c.in-Some.ensures.some in
    let row = c.copy_from_slice.ensures.items ∙ c.deref.ensures.value in
    record {
      follow = start_taken l c.args.term.0 terms c.args.start.now _ down.0 u t c.in-Some.ensures.below.0 c.in-Some.ensures.below.1 down.1 down.2 is refl row;
      start = start_fills l c.args.term.0 terms _ u t c.in-Some.ensures.below.1 c.requires.terms is row;
    }

pub returns-in_default-clause-follow : goal.returns-in_default-clause-follow
returns-in_default-clause-follow c = start_kept c.args.lent.now c.args.term.0 c.args.terms.now c.args.start.now c.in_default.ensures.none
