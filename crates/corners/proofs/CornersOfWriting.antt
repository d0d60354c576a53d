-- Corners of the writer, by computation. Assumes nothing.
use mathlib.Core.Path.{◌≡◌, refl}
use mathlib.Core.Option.{some}
use Rattle.model.specs.Notation.{◌>>=◌}
use Rattle.model.specs.Limits.{Edition}
use Rattle.model.specs.Numbers as refusal
use Rattle.model.specs.Bytes.{bytes}
use Rattle.model.specs.Tokens.{tokens_of, spelled}
use Rattle.model.specs.State.{empty}
use Rattle.model.specs.Edits.{edit}
use Rattle.model.specs.Valley.{valley}
use Rattle.model.specs.FileText.{file_text, write_file, written_length}
use Rattle.model.proofs.Computing.{computing}

-- "one space stands only between two neighbouring words": a string is no word, and none stands at either end
pub spaces : (tokens_of (bytes "  \"a\" IN { \"a\" , \"b\" } AND user.x = 1 OR NOT ( user.y ) ") >>= λ ts. some (spelled ts)) ≡ some (bytes "\"a\"IN{\"a\",\"b\"}AND user.x=1 OR NOT(user.y)")
unfolding computing
spaces = refl

-- the empty state has its first line
pub empty-text : file_text (empty Edition.first) ≡ bytes "rights=1\n"
unfolding computing
empty-text = refl

pub empty-second-text : file_text (empty Edition.second) ≡ bytes "rights=2\n"
unfolding computing
empty-second-text = refl

-- "18 and 0 if refused", and "0 and its length"; "Bytes of the buffer behind the text keep their content"
pub one-byte-short : write_file (empty Edition.first) (bytes "........") ≡ record { number = refusal.does_not_fit; text_length = 0; buffer = bytes "........" }
unfolding computing
one-byte-short = refl

pub one-byte-more : write_file (empty Edition.first) (bytes "..........") ≡ record { number = 0; text_length = 9; buffer = bytes "rights=1\n." }
unfolding computing
one-byte-more = refl

-- the valley file behind an edit: ties by holder numbers, policies by their tokens
pub valley-text : file_text (edit valley (bytes "-parent=season,day\n")).state
    ≡ bytes "rights=1\nattr=user,kind,str\nattr=user,zone,int\nattr=user,staff,bool\nattr=object,zone,int\nattr=env,hour,int\nop=pass\natom=user.kind,\"day\"\natom=user.kind,\"season\"\natom=user.zone,1\natom=user.zone,2\natom=object.zone,2\nugroup=day\nugroup=season\nogroup=upper\nuser=p17\nobject=g2\nmember=p17,season\nmember=g2,upper\nvalue=day,kind,\"day\"\nvalue=day,zone,1\nvalue=season,kind,\"season\"\nvalue=season,zone,2\nvalue=upper,zone,2\nrule=pass,user.zone=object.zone AND env.hour<17\nrule=pass,user.staff\n"
unfolding computing
valley-text = refl

-- "the exact byte length that the writer of E1 would put out"
pub empty-length : written_length (empty Edition.first) ≡ 9
unfolding computing
empty-length = refl

pub valley-length : written_length (edit valley (bytes "-parent=season,day\n")).state ≡ 477
unfolding computing
valley-length = refl
