use Rattle.price_certificate.proofs.document.reading.instance_in.Goals as goal

pub returns-in_default-clause-none : goal.returns-in_default-clause-none
returns-in_default-clause-none c p spelled =
    let none = rw c.in_default.is at c.in_ok-parts.ensures.none in
    none spelled.version spelled.limits spelled.draining spelled.rows spelled.preceding spelled.parts
