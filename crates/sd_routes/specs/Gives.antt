-- What is given against what is said.
use Rattle.std.specs.Prelude.{◌≡◌, Result, Ok, Err}
use Rattle.sd_routes.specs.declared.request_error.RequestError.{RequestError}
use Rattle.sd_routes.specs.declared.request_error.RequestError.TheVariants.{NoRoute, Method, Host, Origin, Token, MediaType, TransferCoding, Expectation, Shape, BadName, TooManyRules, OtherEpoch, UnknownRound, TooLong, JournalFull, NotKept, Memory}

-- a refusal is given where it is said; that memory ran out says nothing
abbrev pub Fails : {T : Type 0} → RequestError → Result T RequestError → Type 0
Fails NoRoute said = said ≡ Err NoRoute
Fails (Method place) said = said ≡ Err (Method place)
Fails Host said = said ≡ Err Host
Fails Origin said = said ≡ Err Origin
Fails Token said = said ≡ Err Token
Fails MediaType said = said ≡ Err MediaType
Fails TransferCoding said = said ≡ Err TransferCoding
Fails Expectation said = said ≡ Err Expectation
Fails Shape said = said ≡ Err Shape
Fails BadName said = said ≡ Err BadName
Fails TooManyRules said = said ≡ Err TooManyRules
Fails OtherEpoch said = said ≡ Err OtherEpoch
Fails UnknownRound said = said ≡ Err UnknownRound
Fails TooLong said = said ≡ Err TooLong
Fails JournalFull said = said ≡ Err JournalFull
Fails NotKept said = said ≡ Err NotKept
Fails Memory said = Unit {0}

-- what is given is what is said, unless memory ran out
abbrev pub Gives : {T : Type 0} → Result T RequestError → Result T RequestError → Type 0
Gives (Ok x) said = said ≡ Ok x
Gives (Err e) said = Fails e said
