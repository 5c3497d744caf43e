use Rattle.std.proofs.Common.{◌≡◌, ℕ, ◌+◌, ◌%◌, ◌<◌, List, [], ◌∷◌, ◌++◌, string_bytes, arith}
use Rattle.std.proofs.lemmas.Result.{IfOk-weaker}
use Rattle.etcd_requests.specs.Keys.{last_digits}
use Rattle.etcd_requests.proofs.Digits.{more_digits, no_digits}
use Rattle.etcd_requests.proofs.key.+push_digits.Goals as goal

pub returns-then-count-eq0 : goal.returns-then-count-eq0
returns-then-count-eq0 t c = no_digits c.args.count c.args.number (string_bytes c.args.text.now) (omega arith)

pub returns : goal.returns
returns t c =
    let count = c.args.count in
    let number = c.args.number in
    let old = string_bytes c.args.text.now in
    let between = string_bytes c.push_digits.new.text in
    let new = string_bytes c.push_digit.new.text in
    let some : 0 < count = omega arith in
    IfOk-weaker c.push_digit.result (λ _. new ≡ between ++ (48 + number % 10) ∷ []) (λ _. new ≡ old ++ last_digits count number)
    (λ _ e. more_digits count number old between new some c.in_ok-push_digits.ensures e) c.push_digit.ensures
