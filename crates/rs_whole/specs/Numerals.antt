-- Numerals (Lua 5.1 manual, 2.1), and the numbers that they stand for.
use Rattle.std.specs.Prelude.{◌≡◌, ℕ, ◌+◌, ◌*◌, ◌^◌, ◌<◌, Bool, ◌==◌, ◌||◌, nat_le, ◌&&◌, ◌⊎◌, ℤ, pos, neg_ℤ, List}
use Rattle.std.specs.Prelude.{[], ◌∷◌, ◌++◌, length, Option, Some, None}
use Rattle.std.specs.List.{AllByRecursion}
use Rattle.std.specs.Str.Parse.{AllDigits, IsNumeral as AreDigits, digits_value}

-- space, HT, LF, VT, FF and CR
abbrev pub is_space : ℕ → Bool
is_space b = b == 32 || nat_le 9 b && nat_le b 13

-- no sign, `+` or `-`
pub data Sign : Type 0 where
  none : Sign
  plus : Sign
  minus : Sign

abbrev pub sign_text : Sign → List ℕ
sign_text Sign.none = []
sign_text Sign.plus = 43 ∷ []
sign_text Sign.minus = 45 ∷ []

-- no exponent, or `e` or `E`, a sign and digits
pub data Exponent : Type 0 where
  absent : Exponent
  power : (letter : ℕ) (sign : Sign) (digits : List ℕ) → Exponent

abbrev pub exponent_text : Exponent → List ℕ
exponent_text Exponent.absent = []
exponent_text (Exponent.power letter sign digits) = letter ∷ sign_text sign ++ digits

abbrev pub IsExponent : Exponent → Type 0
IsExponent Exponent.absent = Unit {0}
IsExponent (Exponent.power letter sign digits) = ((letter ≡ 101) ⊎ (letter ≡ 69)) × AreDigits 10 digits

-- by how many places the exponent raises, and by how many it lowers
abbrev pub rises : Exponent → ℕ
rises Exponent.absent = 0
rises (Exponent.power letter Sign.none digits) = digits_value 10 digits
rises (Exponent.power letter Sign.plus digits) = digits_value 10 digits
rises (Exponent.power letter Sign.minus digits) = 0

abbrev pub falls : Exponent → ℕ
falls Exponent.absent = 0
falls (Exponent.power letter Sign.none digits) = 0
falls (Exponent.power letter Sign.plus digits) = 0
falls (Exponent.power letter Sign.minus digits) = digits_value 10 digits

-- a point and the digits behind it, of which there may be none
abbrev pub fraction_text : Option (List ℕ) → List ℕ
fraction_text None = []
fraction_text (Some digits) = 46 ∷ digits

abbrev pub fraction_digits : Option (List ℕ) → List ℕ
fraction_digits None = []
fraction_digits (Some digits) = digits

-- `3`, `3.`, `3.14`, `.5`, `3e-2`; `0x1F`
pub data Numeral : Type 0 where
  by_tens : (whole : List ℕ) (fraction : Option (List ℕ)) (exponent : Exponent) → Numeral
  by_sixteens : (digits : List ℕ) → Numeral

abbrev pub numeral_text : Numeral → List ℕ
numeral_text (Numeral.by_tens whole fraction exponent) = whole ++ (fraction_text fraction ++ exponent_text exponent)
numeral_text (Numeral.by_sixteens digits) = 48 ∷ 120 ∷ digits

-- a digit at least, before the point or behind it
abbrev pub IsProper : Numeral → Type 0
IsProper (Numeral.by_tens whole fraction exponent) =
    AllDigits 10 whole × AllDigits 10 (fraction_digits fraction)
    × (0 < length (whole ++ fraction_digits fraction)) × IsExponent exponent
IsProper (Numeral.by_sixteens digits) = AreDigits 16 digits

-- the numeral stands for n: the number of all its digits, less as many places as stand behind the point, and as the
-- exponent says
abbrev pub IsValue : Numeral → ℕ → Type 0
IsValue (Numeral.by_tens whole fraction exponent) n =
    n * 10 ^ (length (fraction_digits fraction) + falls exponent)
    ≡ digits_value 10 (whole ++ fraction_digits fraction) * 10 ^ rises exponent
IsValue (Numeral.by_sixteens digits) n = n ≡ digits_value 16 digits

-- the numeral stands for z
abbrev pub StandsFor : Numeral → ℤ → Type 0
StandsFor numeral z = (n : ℕ) × (z ≡ pos n) × IsValue numeral n

abbrev pub signed : Sign → ℕ → ℤ
signed Sign.none n = pos n
signed Sign.plus n = pos n
signed Sign.minus n = neg_ℤ (pos n)

-- with a sign before it the numeral stands for z
abbrev pub SignedStandsFor : Sign → Numeral → ℤ → Type 0
SignedStandsFor sign numeral z = (n : ℕ) × (z ≡ signed sign n) × IsValue numeral n

abbrev pub AreSpaces : List ℕ → Type 0
AreSpaces text = AllByRecursion (λ b. is_space b ≡ Bool.true) text

-- the text is a numeral with this sign, and white space round it
pub record Holds (text : List ℕ) (sign : Sign) (numeral : Numeral) : Type 0 where
  pub before : List ℕ
  pub after : List ℕ
  pub spaces_before : AreSpaces before
  pub spaces_after : AreSpaces after
  pub proper : IsProper numeral
  pub text_is : text ≡ before ++ (sign_text sign ++ numeral_text numeral) ++ after
