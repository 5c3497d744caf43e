use Rattle.std.proofs.Common.{Some, None, arith}
use Rattle.std.proofs.lemmas.Str.Pattern.{rfind_char}
use Rattle.file_configs.proofs.Folders.{up_to, lacking}
use Rattle.file_configs.proofs.folder.folder_of.Goals as goal

pub returns-in-Some : goal.returns-in-Some
returns-in-Some c =
    let found = rfind_char 47 c.args.path.now (Some c.in-Some.last) c.in-Some.ensures.cases (omega arith) in
    rw c.range.ensures.value (up_to c.args.path.now c.in-Some.last _ (omega arith) found.0 found.1 found.2)

pub returns-in-None : goal.returns-in-None
returns-in-None c = lacking c.args.path.now (rfind_char 47 c.args.path.now None c.in-None.ensures.cases (omega arith))
