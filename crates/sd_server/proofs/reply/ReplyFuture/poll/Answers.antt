use Rattle.std.proofs.Common.{rules, ◌≡◌, refl, sym, subst}
use Rattle.sd_server.specs.declared.reply.Stage.TheVariants as stage
use Rattle.sd_server.specs.Replies.{MaySay}
use Rattle.sd_server.proofs.Weaker.{gives_weaker}
use Rattle.sd_server.proofs.reply.ReplyFuture.poll.Goals as goal

-- what rests on the entry of a body may be said to the body
pub returns-in-Ready-ready-read-clause-same : goal.returns-in-Ready-ready-read-clause-same
returns-in-Ready-ready-read-clause-same g c =
    let is : c.args.self.now.stage ≡ stage.Reading c.in-Reading.reading = search rules in
    let told : c.replace.new.dest ≡ stage.Told c.entry-entry.result = search rules in
    let seen = c.entry-entry.new.seen in
    let keeps = g.N.JournalName.keeps in
    rw c.yield_now.ensures.pending
    (λ x given. gives_weaker keeps (record c.args.self.now { stage = c.replace.new.dest; seen = seen }) c.args.self.now
    refl (λ said may.
    let must = subst (λ s. MaySay keeps seen s said) told may in
    subst (λ s. MaySay keeps c.args.self.now.seen s said) (sym is) (seen, c.entry-entry.ensures.moves, c.entry-entry.ensures.says said must, c.entry-entry.ensures.kept said must)) x given)

-- while a body is awaited, the same may be said to it
pub returns-in-Reading-clause-same : goal.returns-in-Reading-clause-same
returns-in-Reading-clause-same g c =
    let is : c.args.self.now.stage ≡ stage.Reading c.in-Reading.reading = search rules in
    let keeps = g.N.JournalName.keeps in
    λ x given. gives_weaker keeps (record c.args.self.now { stage = stage.Reading (record c.in-Reading.reading { body = c.poll-in-Reading.new.self }) }) c.args.self.now
    refl (λ said may. subst (λ s. MaySay keeps c.args.self.now.seen s said) (sym is) may) x given
