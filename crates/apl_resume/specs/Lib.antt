pub mod Cut
pub mod Law
pub mod UnderWay
pub mod Quiet
pub mod Standing
