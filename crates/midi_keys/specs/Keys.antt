-- Document 02 on the keyboard: a key's frequency, over whole numbers, and the two numbers that a keyboard note is given.
use Rattle.std.specs.Prelude.{ℕ, suc, ◌-◌, ◌*◌, ◌^◌, ◌≤◌, ◌<◌, List, [], ◌∷◌, false, pos, get_or, Float}
use Rattle.std.specs.Float.{binary32, fin}
use Rattle.std.specs.Float.Ieee.{of_int, div}

-- t is the largest whole number not above 450,560 times 2 to the power (n - 69) / 12, by twelfth powers. One of the two differences is 0:
-- below key 69 the power of two stands beside t, above it beside 450,560.
abbrev pub Rule : ℕ → ℕ → Type 0
Rule n t = (t ^ 12 * 2 ^ (69 - n) ≤ 450560 ^ 12 * 2 ^ (n - 69)) × (450560 ^ 12 * 2 ^ (n - 69) < suc t ^ 12 * 2 ^ (69 - n))

-- the frequencies of the 128 keys in 1/1,024 Hz, an octave to a line
unfoldable pub table : List ℕ
table =
    8372 ∷ 8869 ∷ 9397 ∷ 9956 ∷ 10548 ∷ 11175 ∷ 11839 ∷ 12543 ∷ 13289 ∷ 14080 ∷ 14917 ∷ 15804 ∷
    16744 ∷ 17739 ∷ 18794 ∷ 19912 ∷ 21096 ∷ 22350 ∷ 23679 ∷ 25087 ∷ 26579 ∷ 28160 ∷ 29834 ∷ 31608 ∷
    33488 ∷ 35479 ∷ 37589 ∷ 39824 ∷ 42192 ∷ 44701 ∷ 47359 ∷ 50175 ∷ 53159 ∷ 56320 ∷ 59668 ∷ 63217 ∷
    66976 ∷ 70958 ∷ 75178 ∷ 79648 ∷ 84384 ∷ 89402 ∷ 94718 ∷ 100350 ∷ 106318 ∷ 112640 ∷ 119337 ∷ 126434 ∷
    133952 ∷ 141917 ∷ 150356 ∷ 159297 ∷ 168769 ∷ 178804 ∷ 189437 ∷ 200701 ∷ 212636 ∷ 225280 ∷ 238675 ∷ 252868 ∷
    267904 ∷ 283835 ∷ 300712 ∷ 318594 ∷ 337538 ∷ 357609 ∷ 378874 ∷ 401403 ∷ 425272 ∷ 450560 ∷ 477351 ∷ 505736 ∷
    535809 ∷ 567670 ∷ 601425 ∷ 637188 ∷ 675077 ∷ 715219 ∷ 757748 ∷ 802806 ∷ 850544 ∷ 901120 ∷ 954703 ∷ 1011473 ∷
    1071618 ∷ 1135340 ∷ 1202850 ∷ 1274376 ∷ 1350154 ∷ 1430438 ∷ 1515497 ∷ 1605613 ∷ 1701088 ∷ 1802240 ∷ 1909406 ∷ 2022946 ∷
    2143236 ∷ 2270680 ∷ 2405701 ∷ 2548752 ∷ 2700308 ∷ 2860877 ∷ 3030994 ∷ 3211226 ∷ 3402176 ∷ 3604480 ∷ 3818813 ∷ 4045892 ∷
    4286473 ∷ 4541360 ∷ 4811403 ∷ 5097504 ∷ 5400617 ∷ 5721755 ∷ 6061988 ∷ 6422453 ∷ 6804352 ∷ 7208960 ∷ 7637627 ∷ 8091784 ∷
    8572946 ∷ 9082720 ∷ 9622807 ∷ 10195009 ∷ 10801235 ∷ 11443510 ∷ 12123977 ∷ 12844906 ∷ []

abbrev pub EveryKeyRight : Type 0
unfolding table
EveryKeyRight = (n : ℕ) → n < 128 → Rule n (get_or table n 0)

-- a whole number divided by 2 to the power k, as floats
unfoldable pub shared : ℕ → ℕ → Float
unfolding of_int div
shared k t = div binary32 (of_int binary32 (pos t)) (fin false 1 (pos k))

-- field one: the key's frequency, its number divided by 1,024; past the table the number is 0
unfoldable pub frequency_of : ℕ → Float
unfolding table
frequency_of n = shared 10 (get_or table n 0)

-- field two: the velocity divided by 128
unfoldable pub normalized_velocity : ℕ → Float
normalized_velocity v = shared 7 v
