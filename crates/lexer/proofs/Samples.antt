-- The definitions compute on texts in hand.
use Rattle.std.proofs.Common.{◌≡◌, ℕ, List, Ok, codes, refl}
use Rattle.faults.specs.declared.Reason.TheVariants as reason
use Rattle.lexer.specs.declared.token.Operator.TheVariants as operator
use Rattle.lexer.specs.declared.token.Symbol.TheVariants as symbol
use Rattle.lexer.specs.declared.token.Token.TheVariants as token
use Rattle.lexer.specs.Bounds.{sign_in, number_in, bound_in, range_in, refused}
use Rattle.lexer.specs.Lexer.{token_at, look_at}

text : List ℕ
text = codes "  G[0,12] True <-> X[4096] q_1"

always_at_2 : look_at text 0 ≡ record { token = token.Temporal operator.Always; from = 2; next = 3 }
unfolding text token_at look_at
always_at_2 = refl

both_at_15 : look_at text 14 ≡ record { token = token.Symbol symbol.Equivalent; from = 15; next = 18 }
unfolding text token_at look_at
both_at_15 = refl

end_past : look_at text 99 ≡ record { token = token.End; from = 99; next = 99 }
unfolding text token_at look_at
end_past = refl

range_at_3 : range_in text 3 ≡ Ok (record { low = 0; high = 12; next = 9 })
unfolding text token_at look_at sign_in number_in range_in
range_at_3 = refl

no_bracket : bound_in text 9 ≡ Ok (record { value = 1; next = 9 })
unfolding text token_at look_at bound_in
no_bracket = refl

bound_too_large : bound_in text 20 ≡ refused reason.Bounds 21
unfolding text token_at look_at sign_in number_in bound_in
bound_too_large = refl

range_falls : range_in (codes "[5,4]") 0 ≡ refused reason.Bounds 3
unfolding token_at look_at sign_in number_in range_in
range_falls = refl

range_unclosed : range_in (codes "[1,2") 0 ≡ refused reason.Misplaced 4
unfolding token_at look_at sign_in number_in range_in
range_unclosed = refl

range_unknown : range_in (codes "[1;2]") 0 ≡ refused reason.Unknown 2
unfolding token_at look_at sign_in number_in range_in
range_unknown = refl
