use Rattle.std.proofs.Common.{rules, ◌≡◌, Some, None}
use Rattle.pl_exec.specs.Tasks.{sids_in, assets_in}
use Rattle.pl_exec.specs.ChunkInputs.{node_at, task_at}
use Rattle.pl_exec.proofs.Held.{kept_masked}
use Rattle.pl_exec.proofs.term_session.keep_row.Goals as goal

pub term_row-requires-clause-read : goal.term_row-requires-clause-read
term_row-requires-clause-read c =
    let e : (node_at c.args.term_session.now).mask ≡ Some c.in-Some.term.0 = search rules in
    c.requires.term_session.ready.mask c.in-Some.term.0 e

pub returns-in-Some-clause-keep : goal.returns-in-Some-clause-keep
returns-in-Some-clause-keep c =
    let e : (node_at c.args.term_session.now).mask ≡ Some c.in-Some.term.0 = search rules in
    rw e (kept_masked (task_at c.args.term_session.now).world (task_at c.args.term_session.now).pipeline (sids_in (task_at c.args.term_session.now)) c.in-Some.term.0 (assets_in (task_at c.args.term_session.now)) c.args.term_session.now.session
    c.existing_row.new.keep c.keep_values.new.out c.term_row.new.row c.existing_row.ensures c.term_row.ensures c.keep_values.ensures.length c.keep_values.ensures.each)

pub returns-in_default-clause-keep : goal.returns-in_default-clause-keep
returns-in_default-clause-keep c =
    let e : (node_at c.args.term_session.now).mask ≡ None = search rules in
    rw e c.existing_row.ensures
