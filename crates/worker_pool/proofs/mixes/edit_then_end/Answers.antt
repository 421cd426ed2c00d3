use Rattle.std.proofs.Common.{ap, subst, sym}
use Rattle.std.proofs.lemmas.Result.{err_from_is_err_and}
use Rattle.firing_core.specs.Entries.{edit_of}
use Rattle.export_table.specs.Passing.{on_log}
use Rattle.worker_pool.specs.Mixing.{WentOn}
use Rattle.worker_pool.proofs.Turns.{keeps_end, went_edited, went_more, went_ends, mixed_refused}
use Rattle.worker_pool.proofs.mixes.edit_then_end.Goals as goal

pub finish-requires-clause-may_end : goal.finish-requires-clause-may_end
finish-requires-clause-may_end g c =
    keeps_end c.args.crew.now.shared.opening (on_log c.args.pass.now) (on_log c.edit.new.pass) c.args.mix.firing c.edit.ensures.keeps c.requires.may_end

pub returns-in_err-edit : goal.returns-in_err-edit
returns-in_err-edit g c =
    let p = err_from_is_err_and c.from_residual.result c.from_residual.ensures.1 in
    rw (p.1, p.2) (mixed_refused c.args.crew.now.shared c.args.pass.now c.edit.new.pass c.args.mix _ c.edit.ensures.own c.in_err-edit.ensures.refused)

pub returns-in_default : goal.returns-in_default
returns-in_default g c =
    let o = c.args.crew.now.shared.opening in
    let v = on_log c.args.pass.now in
    let w = on_log c.edit.new.pass in
    record {
      own = c.finish.ensures.own;
      went = subst (WentOn v) (sym (ap on_log c.in_default.ensures.same)) (went_edited o v w (edit_of c.args.mix.edit) c.in_ok-edit.ensures.edited);
      mixed = tt;
      stopped = tt;
    }

pub returns : goal.returns
returns g c =
    let o = c.args.crew.now.shared.opening in
    let v = on_log c.args.pass.now in
    let w = on_log c.edit.new.pass in
    let x = on_log c.finish.new.pass in
    let end = c.in-Some.ensures.ended in
    record {
      own = c.finish.ensures.own;
      went = went_more v w x (went_edited o v w (edit_of c.args.mix.edit) c.in_ok-edit.ensures.edited) (went_ends o w x c.args.mix.firing end);
      mixed = record {
        middle = w;
        edited = c.in_ok-edit.ensures.edited;
        before = end.before;
        core = end.core;
        ended = end.turn;
      };
      stopped = tt;
    }
